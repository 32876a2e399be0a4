-- `claims::claims` meets its contract: what the entries of all logs add and what those of the archive add is the sum over the purses
-- (`claims_once`), and that fits four bytes (`claims_most`).
-- Assumes nothing.
use Prim.Native.Nat.{◌+◌, ◌≤◌}
use mathlib.Core.Bool.{true}
use mathlib.Core.Path.{◌≡◌, ◌∙◌, sym}
use native.Mathlib.Omega.{arith}
use borrow.Author.Rules.{rules}
use Rattle.rules.specs.Paid.{claims}
use Rattle.rules.specs.Laid.{seen, held_ok, held_claims}
use Rattle.rules.proofs.Places.{seen_ok}
use Rattle.rules.proofs.Claims.{claims_most}
use Rattle.claims.proofs.Summed.{few_purses, logs_fit, few_entries, claims_once}
use Rattle.claims.proofs.claims.Goals as goal
use Rattle.claims.proofs.claims.Goals.{After-sum_of_archive-rest, Then-lent_ok}

-- the table obeys the rules
obeys : (c : Then-lent_ok) → held_ok c.args.held ≡ true
obeys c = sym c.lent_ok.ensures ∙ c.if-lent_ok.true

-- the two passes are the figure
both : (c : After-sum_of_archive-rest) → c.sum_of_logs-cards.result + c.sum_of_archive-rest.result ≡ claims (seen c.args.held)
both c = omega (arith, c.sum_of_logs-cards.ensures, c.sum_of_archive-rest.ensures, claims_once c.args.held (sym c.lent_ok.ensures ∙ c.if-lent_ok.true))

most : (c : After-sum_of_archive-rest) → c.sum_of_logs-cards.result + c.sum_of_archive-rest.result ≤ 1280000000
most c = omega (arith, both c, claims_most (seen c.args.held) (seen_ok c.args.held (sym c.lent_ok.ensures ∙ c.if-lent_ok.true)))

pub invariant_of-books-clause-few : goal.invariant_of-books-clause-few
invariant_of-books-clause-few c = few_entries c.args.held (obeys (goal.at.invariant_of-books-clause-few c).Then-lent_ok)

pub sum_of_logs-cards-requires : goal.sum_of_logs-cards-requires
sum_of_logs-cards-requires c =
    let h = c.args.held in
    let ok = obeys (goal.at.sum_of_logs-cards-requires c).Then-lent_ok in
    (few_purses h ok, logs_fit h ok)

pub overflow_add-result : goal.overflow_add-result
overflow_add-result c =
    let fits = most (goal.at.overflow_add-result c).After-sum_of_archive-rest in
    search rules

pub overflow_cast-result : goal.overflow_cast-result
overflow_cast-result c =
    let fits = most (goal.at.overflow_cast-result c).After-sum_of_archive-rest in
    search rules

pub returns-then-lent_ok : goal.returns-then-lent_ok
unfolding held_claims
returns-then-lent_ok c = simp (obeys (goal.at.returns-then-lent_ok c).Then-lent_ok, both (goal.at.returns-then-lent_ok c).After-sum_of_archive-rest)

pub returns-else-lent_ok : goal.returns-else-lent_ok
unfolding held_claims
returns-else-lent_ok c = simp (c.from.ensures, sym c.lent_ok.ensures ∙ c.if-lent_ok.false)
