-- `text_tokens::next_token` meets its contract.
use Rattle.std.proofs.Common.{rules, tests, ◌≡◌, ◌-◌, ◌∙◌, sym, length, take, drop}
use Rattle.std.proofs.lemmas.Iterator.{YieldsList-from_slice}
use Rattle.std.proofs.lemmas.Iterator.Search.{position_from_yields_List}
use Rattle.std.proofs.lemmas.List.{take_rest}
use Rattle.std.specs.List.{position}
use Rattle.text_tokens.specs.Tokens.{is_space}
use Rattle.text_tokens.proofs.Laws.{is_letter, no_token, a_token}
use Rattle.text_tokens.proofs.next_token.Goals as goal

pub returns-in_err-start : goal.returns-in_err-start
returns-in_err-start c =
    let line = c.args.line.now in
    let p : c.position.result ≡ position is_letter line =
    position_from_yields_List is_letter _ _ _ c.position.ensures.ran (YieldsList-from_slice line cc) (λ x b q k. search (rules, tests)) in
    rw (c.from_residual.ensures, no_token line (sym p ∙ c.in_err-start.was))

pub returns : goal.returns
returns c =
    let line = c.args.line.now in
    let start = c.in_ok-start.start in
    let rest = take (length line - start) (drop start line) in
    let p : c.position.result ≡ position is_letter line =
    position_from_yields_List is_letter _ _ _ c.position.ensures.ran (YieldsList-from_slice line cc) (λ x b q k. search (rules, tests)) in
    let q : c.position-2.result ≡ position is_space rest =
    position_from_yields_List is_space _ _ _ c.position-2.ensures.ran (YieldsList-from_slice rest cc) (λ x b q k. search (rules, tests)) in
    let e = rw q at c.unwrap_or-end.ensures in
    rw (c.split_at.ensures.front, c.split_at.ensures.back, take_rest) (sym (a_token line start _ (sym p ∙ c.in_ok-start.was) (rw take_rest at e)))
