-- Header, event lines and foot, or header and the line of a refused opening.
-- Assumes nothing.
use mathlib.Core.Path.{subst}
use lib.ListN.{replicate}
use borrow.Author.Rules.{rules}
use Rattle.std.specs.Io.KnownBytes.{Appends}
use Rattle.lines.specs.Listing.{header_line, opening_line, foot_of}
use Rattle.stream.proofs.Pieces.{filled_front, all_listed, all_refused, on_ok}
use Rattle.stream.proofs.list.Goals as goal

pub returns-in_ok-last : goal.returns-in_ok-last
returns-in_ok-last g c =
    let header = filled_front 6 header_line (replicate 4096 0) c.header-length.ensures.filled (search rules) c.header-length.ensures.upper_bound in
    let foot = filled_front 4096 (foot_of c.in_ok-last.last) _ c.foot-length.ensures.filled (search rules) c.foot-length.ensures.upper_bound in
    let (bytes, listed, end) = c.in_ok-last.ensures in
    on_ok c.write-then-opened-eq0.result (λ went. all_listed _ _ _ _ _ _ _ c.in_ok-opened.opened bytes c.in_ok-last.last (subst (Appends _ _) header c.in_ok-write.ensures) c.in_ok-opened.ensures c.if-opened-eq0.true listed end (subst (Appends _ _) foot went))
    c.write-then-opened-eq0.ensures

pub returns-else-opened-eq0 : goal.returns-else-opened-eq0
returns-else-opened-eq0 g c =
    let header = filled_front 6 header_line (replicate 4096 0) c.header-length.ensures.filled (search rules) c.header-length.ensures.upper_bound in
    let line = filled_front 29 (opening_line c.in_ok-opened.opened.answer) _ c.refused-length.ensures.filled (search rules) c.refused-length.ensures.upper_bound in
    on_ok c.write-else-opened-eq0.result (λ went. all_refused _ _ _ _ _ c.in_ok-opened.opened (subst (Appends _ _) header c.in_ok-write.ensures) c.in_ok-opened.ensures c.if-opened-eq0.false (subst (Appends _ _) line went))
    c.write-else-opened-eq0.ensures
