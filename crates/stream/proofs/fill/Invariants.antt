-- What came lies within the bytes, and is what the reader lost.
use Rattle.std.proofs.Common.{◌≤◌, length, take}
use Rattle.std.specs.Io.KnownBytes.{Consumes}
use Rattle.stream.proofs.fill.Given as goal

abbrev pub invariant-loop : goal.invariant-loop
invariant-loop g l =
    record { within : l.count ≤ length l.bytes; consumed : Consumes (g.R.Read.remaining l.initial.from) (g.R.Read.remaining l.from) (take l.count l.bytes) }
