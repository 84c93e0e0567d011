-- `text_tokens::Tokens::next` meets its contract.
use Rattle.std.proofs.Common.{rules, ◌∙◌, sym, ap}
use Rattle.text_tokens.specs.Tokens.{parts}
use Rattle.text_tokens.proofs.Laws.{tokens-none, tokens-some, shorter}
use Rattle.text_tokens.proofs.TokensIterator.next.Goals as goal

pub returns-in_err-token-clause-steps : goal.returns-in_err-token-clause-steps
returns-in_err-token-clause-steps c =
    let e = tokens-none _ (sym c.next_token.ensures ∙ ap parts c.in_err-token.was) in
    rw c.from_residual.ensures (e, e)

pub returns-clause-steps : goal.returns-clause-steps
returns-clause-steps c = tokens-some _ _ _ (sym c.next_token.ensures ∙ ap parts c.in_ok-token.was)

pub returns-clause-goes : goal.returns-clause-goes
returns-clause-goes c =
    let l = shorter _ _ _ (sym c.next_token.ensures ∙ ap parts c.in_ok-token.was) in
    record { on = λ h. (search rules, search rules, l); keeps = search rules; rests = search rules }
