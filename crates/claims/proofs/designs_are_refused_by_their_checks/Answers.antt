-- `claims::designs_are_refused_by_their_checks` meets its contract.
use Rattle.design_request.proofs.Laws.{refused-by-check, checks-come-first, or-else}
use Rattle.claims.proofs.designs_are_refused_by_their_checks.Goals as goal

pub returns : goal.returns
returns c = record { raw = refused-by-check; by_default = checks-come-first; or_else = or-else }
