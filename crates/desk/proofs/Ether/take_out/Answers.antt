-- The later messages are copied one place down, and the last place is zero (Moved). Assumes nothing.
use Rattle.std.proofs.Common.{◌≡◌, length, set, arith, rules}
use borrow.Author.Tests.{lt-ltb, le-leb}
use Rattle.purse.specs.Details.{zero_message}
use Rattle.desk.specs.Desk.{taken_out, pulled}
use Rattle.desk.proofs.Moved.{moved}
use Rattle.desk.proofs.Ether.take_out.Goals as goal

pub returns-then-stand-le256 : goal.returns-then-stand-le256
unfolding taken_out
returns-then-stand-le256 c =
    let l = c.args.self.places in
    let long : length l ≡ 256 = search rules in
    let zero : c.default.result ≡ zero_message = search rules in
    let out : set c.copy_within.new.self 255 c.default.result ≡ pulled c.args.at zero_message l = rw (c.copy_within.ensures.after, zero) (moved l c.args.at 255 _ zero_message long (omega (arith, long)) (omega arith)) in
    rw (lt-ltb _ _ c.if-at-stand.true, le-leb _ _ c.if-stand-le256.true, out)
