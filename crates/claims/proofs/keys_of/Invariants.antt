-- Each turn of the loop sets one key more. Assumes nothing.
use Rattle.table_records.specs.Records.{entry_key}
use Rattle.table_records.proofs.Asked.{Keyed}
use Rattle.claims.proofs.keys_of.Given as goal

abbrev pub invariant-loop-i : goal.invariant-loop-i
invariant-loop-i l = Keyed entry_key l.places l.keys l.i
