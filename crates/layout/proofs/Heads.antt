-- What it says of an image that no test of its head applies.
-- Assumes nothing.
use Prim.Native.Nat.{ℕ, ◌≤◌}
use mathlib.Core.Path.{◌≡◌}
use mathlib.Core.Bool.{Bool, true, false, ◌&&◌, not}
use mathlib.Core.List.{List}
use lib.ListN.{length}
use lib.Dec.{ltb, leb, eqb}
use native.Mathlib.Omega.{arith}
use borrow.Author.Tests.{leb-true, eqb-true, not-false, le-ltb, le-leb, eq-eqb}
use Rattle.purse.specs.Tests.{first}
use Rattle.purse.proofs.Bools.{and_l, and_r, and_i}
use Rattle.purse.proofs.Tests.{passed}
use Rattle.bigendian.specs.Bytes.{byte_at}
use Rattle.layout.specs.Widths.{head_width}
use Rattle.layout.specs.Head.{version, marked, version_in, purses_in, messages_in, entries_in, image_length, counts_in, head_tests}

pub record HeadOk (l : List ℕ) : Type 0 where
  pub mark1 : byte_at l 0 ≡ 0x50
  pub mark2 : byte_at l 1 ≡ 0x52
  pub mark3 : byte_at l 2 ≡ 0x53
  pub version : version_in l ≡ version
  pub some : 1 ≤ purses_in l
  pub purses : purses_in l ≤ 32
  pub messages : messages_in l ≤ 256
  pub entries : entries_in l ≤ 256
  pub long : length l ≡ image_length (purses_in l) (messages_in l) (entries_in l)

pub head_ok_lem : (l : List ℕ) → first (head_tests l) ≡ 0 → HeadOk l
head_ok_lem l e =
    let whole : Bool = eqb (length l) (image_length (purses_in l) (messages_in l) (entries_in l)) in
    let p1 = passed (ltb (length l) head_width) 16 _ (omega arith) e in
    let p2 = passed (not (marked l)) 17 _ (omega arith) p1.1 in
    let p3 = passed (not (eqb (version_in l) version)) 18 _ (omega arith) p2.1 in
    let p4 = passed (not (counts_in l)) 2 _ (omega arith) p3.1 in
    let p5 = passed (not whole) 16 0 (omega arith) p4.1 in
    let a : Bool = eqb (byte_at l 0) 0x50 in
    let b : Bool = eqb (byte_at l 1) 0x52 in
    let d : Bool = eqb (byte_at l 2) 0x53 in
    let mark : (a && b && d) ≡ true = not-false _ p2.0 in
    let mark2 : (a && b) ≡ true = and_l (a && b) d mark in
    let i : Bool = leb 1 (purses_in l) in
    let j : Bool = leb (purses_in l) 32 in
    let k : Bool = leb (messages_in l) 256 in
    let n : Bool = leb (entries_in l) 256 in
    let counts : (i && j && k && n) ≡ true = not-false _ p4.0 in
    let counts3 : (i && j && k) ≡ true = and_l (i && j && k) n counts in
    let counts2 : (i && j) ≡ true = and_l (i && j) k counts3 in
    record {
      mark1 = eqb-true _ _ (and_l a b mark2);
      mark2 = eqb-true _ _ (and_r a b mark2);
      mark3 = eqb-true _ _ (and_r (a && b) d mark);
      version = eqb-true _ _ (not-false _ p3.0);
      some = leb-true _ _ (and_l i j counts2);
      purses = leb-true _ _ (and_r i j counts2);
      messages = leb-true _ _ (and_r (i && j) k counts3);
      entries = leb-true _ _ (and_r (i && j && k) n counts);
      long = eqb-true _ _ (not-false _ p5.0);
    }

pub ok_head : (l : List ℕ) → HeadOk l → first (head_tests l) ≡ 0
ok_head l h =
    let t1 : ltb (length l) head_width ≡ false = le-ltb (length l) head_width (omega (arith, h.long)) in
    let t2 : marked l ≡ true = and_i (and_i (eq-eqb _ _ h.mark1) (eq-eqb _ _ h.mark2)) (eq-eqb _ _ h.mark3) in
    let t3 : eqb (version_in l) version ≡ true = eq-eqb _ _ h.version in
    let t4 : counts_in l ≡ true =
    and_i (and_i (and_i (le-leb _ _ h.some) (le-leb _ _ h.purses)) (le-leb _ _ h.messages)) (le-leb _ _ h.entries)
    in
    let t5 : eqb (length l) (image_length (purses_in l) (messages_in l) (entries_in l)) ≡ true = eq-eqb _ _ h.long in
    rw (t1, t2, t3, t4, t5)
