-- 02, A5, by computation: the numbers of an issue and of a load at their edges and in their order, and a term in which purses are issued and
-- loaded, with what it added.
-- Assumes nothing.
use Prim.Native.Nat.{ℕ}
use mathlib.Core.Path.{◌≡◌, refl}
use mathlib.Core.List.{List, [], ◌∷◌, map}
use lib.ListN.{replicate}
use Rattle.bigendian.specs.Bytes.{number_at}
use Rattle.purse.specs.declared.Purse.{Purse}
use Rattle.purse.specs.Details.{same_details, same_message, legal, named, as_payer, as_payee, entry_ok, absent}
use Rattle.purse.specs.Purse.{idle_ok, busy_ok, place_ok, log_ok, well_formed}
use Rattle.purse.specs.Step.{start_number, from_number, start_from, load_number, load_by}
use Rattle.rules.specs.Bench.{Bench}
use Rattle.rules.specs.Table.{counts_ok, in_table, purse_ok, message_ok, archive_ok, once_ok, clear_ok, table_ok}
use Rattle.rules.specs.Events.{decoded}
use Rattle.rules.specs.Steps.{acting, step}
use Rattle.rules.specs.Run.{opened, run, answers}
use Rattle.rules.specs.Paid.{sum_of, added_to, effect_by, added}
use Rattle.rules.proofs.Samples.{event, from, pair}
use Rattle.rules.proofs.Edges.{Case, at}

abbrev many : ℕ → Bench
many n = opened (replicate n 7)

-- purse 1 expects a request
abbrev busy : Bench
busy = run (many 2) (from 1 0 5 ∷ [])

abbrev pub cases : List Case
cases =
    -- 31 and 32 purses; class and balance are looked at behind that
    at (many 31) (event 7 0 0 0 0) 0
    ∷ at (many 32) (event 7 0 0 0 0) 24
    ∷ at (many 32) (event 7 0 9 0 4294967295) 24
    -- any class but 0, whatever the balance
    ∷ at (many 31) (event 7 0 1 0 5000001) 22
    ∷ at (many 1) (event 7 0 255 0 0) 22
    -- a first balance of 5,000,000 and one more: 21, never 7
    ∷ at (many 1) (event 7 0 0 0 5000000) 0
    ∷ at (many 1) (event 7 0 0 0 5000001) 21
    -- a purse or a number said of an issue, a counterparty or a number of a load
    ∷ at (many 32) (event 7 1 0 0 5) 3
    ∷ at (many 32) (event 7 0 0 1 5) 3
    ∷ at (many 2) (event 8 0 1 0 5) 3
    ∷ at (many 2) (event 8 0 0 1 5) 3
    -- no such purse, before its amount
    ∷ at (many 2) (event 8 2 0 0 0) 4
    -- amount 0, 1, 5,000,001
    ∷ at (many 2) (event 8 1 0 0 0) 7
    ∷ at (many 2) (event 8 1 0 0 1) 0
    ∷ at (many 2) (event 8 1 0 0 5000001) 7
    -- a busy purse, behind the amount and before the ceiling
    ∷ at busy (event 8 1 0 0 0) 7
    ∷ at busy (event 8 1 0 0 5000000) 8
    -- balance 4,999,700, load 300, 301
    ∷ at (pair 4999700 1 0) (event 8 0 0 0 300) 0
    ∷ at (pair 4999700 1 0) (event 8 0 0 0 301) 12
    -- the last sequence number and a full log do not matter
    ∷ at (pair 300 4294967295 0) (event 8 0 0 0 1) 0
    ∷ at (pair 300 9 8) (event 8 0 0 0 1) 0
    ∷ []

-- a term at a bench opened with one purse of 1000
abbrev term : List (List ℕ)
term =
    event 7 0 0 0 5000000
    ∷ event 7 0 1 0 500
    ∷ event 7 0 0 0 5000001
    ∷ event 8 1 0 0 1
    ∷ event 8 0 0 0 4999000
    ∷ event 1 0 1 1 10
    ∷ event 8 0 0 0 5000000
    ∷ event 7 0 0 0 0
    ∷ event 8 2 0 0 7
    ∷ event 8 2 0 0 8
    ∷ []

abbrev start : Bench
start = opened (1000 ∷ [])

pub record Worked : Type 0 where
  pub edges : map (λ (c : Case). (step c.bench c.event).answer) cases ≡ map (λ (c : Case). c.number) cases
  pub term_answers : answers start term ≡ 0 ∷ 22 ∷ 21 ∷ 12 ∷ 0 ∷ 0 ∷ 8 ∷ 0 ∷ 0 ∷ 0 ∷ []
  pub term_balances : map (λ (p : Purse). p.balance.0) (run start term).purses ≡ 5000000 ∷ 5000000 ∷ 15 ∷ []
  -- what is refused adds nothing
  pub term_added : map sum_of (added start term) ≡ 5000000 ∷ 4999000 ∷ 0 ∷ 7 ∷ 8 ∷ []
  pub added_to_lem : map (λ (p : ℕ). added_to p (added start term)) (0 ∷ 1 ∷ 2 ∷ 3 ∷ []) ≡ 4999000 ∷ 5000000 ∷ 15 ∷ 0 ∷ []

pub worked : Worked
unfolding same_details legal named as_payer as_payee entry_ok absent idle_ok busy_ok place_ok log_ok well_formed start_number from_number start_from load_number load_by same_message counts_ok in_table purse_ok message_ok archive_ok once_ok clear_ok table_ok decoded number_at acting step effect_by
worked =
    record {
      edges = refl;
      term_answers = refl;
      term_balances = refl;
      term_added = refl;
      added_to_lem = refl;
    }
