-- What went lies within the bytes, and is what the writer took.
use Rattle.std.proofs.Common.{◌≤◌, length, take}
use Rattle.std.specs.Io.KnownBytes.{Appends}
use Rattle.stream.proofs.write.Given as goal

abbrev pub invariant-loop : goal.invariant-loop
invariant-loop g l =
    record { within : l.count ≤ length l.bytes; appended : Appends (g.W.Write.contents l.initial.to) (g.W.Write.contents l.to) (take l.count l.bytes) }
