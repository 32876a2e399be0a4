-- Steps for a proof by hand over `&mut T`, `&mut [T]` and `&[T]` of plain records, and over local arrays of them. It names no crate's type or
-- function. Each step is made of the logic's own. Assumes nothing.
use mathlib.Core.Path.{◌≡◌, refl, sym, ap, subst}
use Prim.Native.Nat.{ℕ, zero, suc, ◌+◌, ◌*◌, ◌<◌}
use mathlib.Core.Bool.{Bool, true, false, not}
use mathlib.Core.List.{List, [], ◌∷◌}
use lib.Dec.{T}
use lib.ListN.{length, get_or, set, length-set}
use seplogic.Ra.Ura.{Ura}
use base.Fraction.{full_share}
use mir.Syntax.{Ty, Lifetime, Opd as Operand, Body, skip, seq, assign, block, loop, cond, switch, exit, return, unreachable, call, call_v, lend_static}
use mir.Raw.{raw as raw_ty}
use mir.Val.{Val, vptr, vbool}
use base.Logic.{sep, ex, emp, via, comm∗, emp∗, id⊢}
use base.Fml.{Lft, GName, Share, Fml, Incl-refl, fsep, fat, fdies, flft, flent, fobs, fauth, fobor, fres}
use prog.Wp.{Env, Calls, Loops, Wp, exits, after_seq}
use types.Logic.{Logic, sem}
use contract.BorrowLft.{⊑_static}
use contract.Monad.{fact}
use types.Kit.{Post, post, any_q, prop, runs, Item, ‵, raw, ◌⊛◌, some, later, mean, use1, use2, split, join, fpick, fpack, pick, await, Goal, frees, Soaks, Seq, Step, step, ◌$◌, move, drop, fsplit, fjoin, fsplit3, fjoin3, feq_i}
use types.Run.{Opd, first, branches, skips, jumps, forget, free1}
use types.Share.{arr_parts}
use types.Tokens.{lft_new, lft_end, lent_back}
use types.Mut.{open_ref, close_ref}
use types.SemTy.{Body as BorBody}
use denote.RattleType.{RattleType}
use denote.Shadow.{pure_i}
use denote.Laws.{Is, shows, Tells, Makes}
use denote.Opens.{Opens, Shut}
use denote.Shares.{Shares}
use denote.Memory.{mem, cell_at, shares, part_of, part_at, hidden_shr}
use denote.Ref.{MutRef, ShrRef}
use denote.Slice.{slice_val, MutSlice, ShrSlice, heres, Room, mut_slice_at, coded_holeys}
use denote.Array.{Array, array_vals, Array-Tells, Array-Makes}
use denote.ArrayMemory.{Single, Array-apart, Array-whole}
use denote.Lend.{Held, lends_shr, lends_shr_slice}
use denote.Index as ix
use denote.Index.{others, row, opens_slice, closes_slice, elem_put}
use denote.Steps.{opens, closes, looks, shuts, owned, facts, heard}
use denote.Struct.Steps.{spelt}

-- ---- tests: what a branch learns, as an equation
pub if_false : (z : Bool) → T (not z) → z ≡ false
if_false true h = absurd h
if_false false h = refl

pub not_not : (z : Bool) → T (not (not z)) → z ≡ true
not_not true h = refl
not_not false h = absurd h

-- the same where the code negates a call's answer r, which the callee says is t
pub was_false : (r t : Bool) → T (not r) → r ≡ t → t ≡ false
was_false true t h e = absurd h
was_false false t h e = sym e

pub was_true : (r t : Bool) → T (not (not r)) → r ≡ t → t ≡ true
was_true true t h e = sym e
was_true false t h e = absurd h

-- ---- what is left of a body after n statements: where a lemma begins inside a loop's turn, of which no `t-K` is made
abbrev pub after : ℕ → Body → Body
after zero b = b
after (suc n) skip = skip
after (suc n) (seq a b) = after n b
after (suc n) (assign p v) = assign p v
after (suc n) (block b) = block b
after (suc n) (loop b) = loop b
after (suc n) (cond c a b) = cond c a b
after (suc n) (switch c arms) = switch c arms
after (suc n) (exit k) = exit k
after (suc n) return = return
after (suc n) unreachable = unreachable
after (suc n) (call f xs d) = call f xs d
after (suc n) (call_v f xs ys d) = call_v f xs ys d
after (suc n) (lend_static f xs d) = lend_static f xs d

-- ---- where element i lies, for elements of s bytes from o
abbrev pub place_of_lem : ℕ → ℕ → ℕ → ℕ
place_of_lem s o i = ix.place s o i

-- it is what MIR's `mul` and `offset` make
pub place_is : (s o i : ℕ) → place_of_lem s o i ≡ i * s + o
place_is s o i = ix.place_is s o i

-- ---- a borrow that is open: what closes it, beside the cell
abbrev pub OpenRef : (R : RattleType) → Lft → Share → GName → ℕ → ℕ → R.Denot → Fml
OpenRef R κ q γ b o h = fsep (fobor κ q (BorBody (mem R) b o γ)) (fsep (fobs γ (R.coded.code h)) (fauth γ (R.coded.code h)))

-- a `&T` that is looked into, at a share q' of its cell: what closes it, beside that share
abbrev pub LookedRef : {M : Type 1} {𝓤 : Ura M} (𝓛 : Logic 𝓤) (R : RattleType) → Lft → Share → Share → ℕ → ℕ → R.Denot → Item 𝓤
LookedRef 𝓛 R κ q q' b o h = Shut 𝓛 κ q (part_at R q' h b o) ⊛ ‵ (hidden_shr R κ h b o)

-- the same of a slice, whose elements lie open
abbrev pub OpenSlice : (R : RattleType) → Lft → Share → GName → ℕ → ℕ → List R.Denot → Fml
OpenSlice R κ q γ b o ys = fsep (fobor κ q (Held R (length ys) b o γ)) (fsep (fobs γ ((coded_holeys R).code (heres R ys))) (fauth γ ((coded_holeys R).code (heres R ys))))

-- of one element: the others, and what closes the slice
abbrev pub OpenAt : (R : RattleType) → Lft → Share → GName → ℕ → ℕ → List R.Denot → ℕ → Fml
OpenAt R κ q γ b o ys i = fsep (others (shares R) full_share ys i b o) (OpenSlice R κ q γ b o ys)

-- what the holder of a `&mut T` keeps while it is shared out as a `&T` for a lifetime κ'
abbrev pub SharedRef : (R : RattleType) → Lft → Lft → Share → GName → ℕ → ℕ → R.Denot → Fml
SharedRef R κ κ' q γ b o h = fsep (flent κ' (part_at R full_share h b o)) (OpenRef R κ q γ b o h)

-- what the holder of a `&mut [T]` keeps while it is shared out as a `&[T]` for a lifetime κ'
abbrev pub SharedOut : (R : RattleType) → Lft → Lft → Share → GName → ℕ → ℕ → List R.Denot → Fml
SharedOut R κ κ' q γ b o ys = fsep (flent κ' ((arr_parts (shares R) (length ys)).part full_share ys b o)) (OpenSlice R κ q γ b o ys)

module _ {M : Type 1} {𝓤 : Ura M} {𝓛 : Logic 𝓤} {K : Type 0} {Γ : List (Item 𝓤)} where
  -- a local that was written is freed
  open 𝓛 use {H}

  pub gone : K → {τ : Ty} {b : ℕ} {v : Val} {E : Env 𝓤 H} {g : Goal 𝓤 H} → Step K 𝓛 Γ (frees E g) (‵ (fat full_share τ b 0 v) ∷ ‵ (fdies τ b) ∷ Γ) (frees ((τ, b) ∷ E) g)
  gone t = step (λ s. forget t 0 refl $ free1 t $ s)

  module _ {E : Env 𝓤 H} {C : Calls 𝓤 H} {Λ : Loops 𝓤 H} {q : Post 𝓤 H} {c : Operand} {b : Body} {y : Bool} where
    -- the test of a `while`: it holds and the turn goes on, or it fails and the loop is left
    pub while_test : K → {n : ℕ} → Opd K 𝓛 Γ E c (vbool y) → (T y → Seq K 𝓛 Γ (runs C Λ E b q)) → (T (not y) → Seq K 𝓛 Γ (prop (post 𝓤 H q (exits n)))) → Seq K 𝓛 Γ (runs C Λ E (seq (cond c skip (exit n)) b) q)
    while_test t o held failed = first t $ branches t o (λ h. skips t $ record { prf = (held h).prf }) (λ h. jumps t $ record { prf = (failed h).prf })

    -- an `if` with no `else`: its arm, or what follows it
    pub if_test : K → {a : Body} → Opd K 𝓛 Γ E c (vbool y) → (T y → Seq K 𝓛 Γ (runs C Λ E a (any_q (after_seq 𝓤 H (Wp 𝓤 H C Λ E b (post 𝓤 H q)) (post 𝓤 H q))))) → (T (not y) → Seq K 𝓛 Γ (runs C Λ E b q))
        → Seq K 𝓛 Γ (runs C Λ E (seq (cond c a skip) b) q)
    if_test t o held failed = first t $ branches t o held (λ h. skips t $ record { prf = (failed h).prf })

  module _ {G : Goal 𝓤 H} where
    -- what a `&mut T` owns and the token, for the cell at the value's machine values and what closes the borrow. T owns facts alone
    pub opens_ref : K → Soaks G → (R : RattleType) (ℓ : Lifetime) (vals : R.Denot → List Val) → Tells R (Is R) vals → {κ : Lft} {q : Share} {γ : GName} (h : R.Denot) (b o : ℕ)
        → (Is R h (vals h) → Seq K 𝓛 (‵ (cell_at full_share R.mir (vals h) b o) ∷ ‵ (OpenRef R κ q γ b o h) ∷ Γ) G)
        → Seq K 𝓛 (‵ ((MutRef ℓ κ R).own_val (record { ref_ptr = (b, o); ghost_name = γ; now = h }) (vptr b o ∷ [])) ∷ ‵ (flft κ q) ∷ Γ) G
    opens_ref t z R ℓ vals tl h b o k =
        fsplit3 t $ drop t $ opens t z R {h = h} b o (λ vs. spelt t R (Is R) (shows 𝓛 R) vals tl full_share h vs b o $ move t (1 ∷ []) $ facts t R (Is R) (shows 𝓛 R) h (vals h) (λ p.
        -- [the cell; the open borrow; obs; auth]
        move t (1 ∷ 2 ∷ 3 ∷ []) $ fjoin3 t $ move t (1 ∷ 0 ∷ []) $ k p))

    -- the other way, at another value
    pub shuts_ref : K → Soaks G → (R : RattleType) (ℓ : Lifetime) → Makes 𝓛 R (Is R) → {κ : Lft} {q : Share} {γ : GName} (h h' : R.Denot) (vs : List Val) (b o : ℕ) → Is R h' vs
        → Step K 𝓛 (‵ ((MutRef ℓ κ R).own_val (record { ref_ptr = (b, o); ghost_name = γ; now = h' }) (vptr b o ∷ [])) ∷ ‵ (flft κ q) ∷ Γ) G (‵ (cell_at full_share R.mir vs b o) ∷ ‵ (OpenRef R κ q γ b o h) ∷ Γ) G
    shuts_ref t z R ℓ mk h h' vs b o is = step (λ s. move t (1 ∷ []) $ fsplit3 t $ move t (3 ∷ []) $ owned t R (Is R) mk h' vs is $ move t (1 ∷ 0 ∷ []) $
        closes t z R h' vs b o $ feq_i t (List Val) (vptr b o ∷ []) (vptr b o ∷ []) refl $ fjoin3 t $ s)

    -- what a `&mut T` owns says its last value
    pub says_last : K → (R : RattleType) (ℓ : Lifetime) {κ : Lft} {γ : GName} (h : R.Denot) (b o : ℕ)
        → Step K 𝓛 (‵ (fres γ (R.coded.code h)) ∷ Γ) G (‵ ((MutRef ℓ κ R).own_val (record { ref_ptr = (b, o); ghost_name = γ; now = h }) (vptr b o ∷ [])) ∷ Γ) G
    says_last t R ℓ {κ} {γ} h b o = step (λ s. fsplit3 t $ move t (1 ∷ []) $ use1 𝓛 (‵ (fres γ (R.coded.code h))) (𝓛.names.obs-res γ (R.coded.code h)) $ move t (1 ∷ 2 ∷ []) $ drop t $ drop t $ s)

    -- what a `&T` owns and the token, for a share of the cell and what closes the borrow. T is one that a `&` to it opens
    pub looks_ref : K → Soaks G → (R : RattleType) (ℓ : Lifetime) (vals : R.Denot → List Val) → Tells R (Is R) vals → Opens 𝓛 R → {κ : Lft} {q : Share} (h : R.Denot) (b o : ℕ)
        → ((q' : Share) → Is R h (vals h) → Seq K 𝓛 (‵ (cell_at q' R.mir (vals h) b o) ∷ LookedRef 𝓛 R κ q q' b o h ∷ Γ) G)
        → Seq K 𝓛 (‵ ((ShrRef ℓ κ R).own_val (record { ref_ptr = (b, o); now = h }) (vptr b o ∷ [])) ∷ ‵ (flft κ q) ∷ Γ) G
    looks_ref t z R ℓ vals tl op h b o k =
        fsplit t $ drop t $ looks t z R op h b o (λ q' vs. spelt t R (Is R) (shows 𝓛 R) vals tl q' h vs b o $ move t (1 ∷ []) $ facts t R (Is R) (shows 𝓛 R) h (vals h) (λ p.
        -- [the share of the cell; its way back; what the `&` holds]
        move t (1 ∷ 2 ∷ []) $ join t $ move t (1 ∷ 0 ∷ []) $ k q' p))

    -- the other way
    pub shuts_looked : K → Soaks G → (R : RattleType) (ℓ : Lifetime) → Makes 𝓛 R (Is R) → {κ : Lft} {q : Share} (q' : Share) (h : R.Denot) (vs : List Val) (b o : ℕ) → Is R h vs
        → Step K 𝓛 (‵ ((ShrRef ℓ κ R).own_val (record { ref_ptr = (b, o); now = h }) (vptr b o ∷ [])) ∷ ‵ (flft κ q) ∷ Γ) G (‵ (cell_at q' R.mir vs b o) ∷ LookedRef 𝓛 R κ q q' b o h ∷ Γ) G
    shuts_looked t z R ℓ mk q' h vs b o is = step (λ s. move t (1 ∷ []) $ split t $ owned t R (Is R) mk h vs is $ move t (3 ∷ 0 ∷ 1 ∷ []) $ shuts t z R q' h vs b o $
        move t (1 ∷ []) $ feq_i t (List Val) (vptr b o ∷ []) (vptr b o ∷ []) refl $ fjoin t $ s)

    -- a `&mut T` is shared out, `&*r`, for a lifetime α that is made for it. T's values hold no `&mut`
    pub shares_ref : K → Soaks G → (R : RattleType) (ℓ ℓ' : Lifetime) → Shares 𝓛 R [] → {κ : Lft} {q : Share} {γ : GName} (h : R.Denot) (b o : ℕ)
        → ((α : ℕ) → Seq K 𝓛 (‵ ((ShrRef ℓ' (α ∷ []) R).own_val (record { ref_ptr = (b, o); now = h }) (vptr b o ∷ [])) ∷ ‵ (flft (α ∷ []) full_share) ∷ ‵ (SharedRef R κ (α ∷ []) q γ b o h) ∷ Γ) G)
        → Seq K 𝓛 (‵ ((MutRef ℓ κ R).own_val (record { ref_ptr = (b, o); ghost_name = γ; now = h }) (vptr b o ∷ [])) ∷ ‵ (flft κ q) ∷ Γ) G
    shares_ref t z R ℓ ℓ' sh h b o k =
        fsplit3 t $ drop t $ open_ref t z (mem R) {x = h} {b = b} {o = o} $ lft_new t z (λ α. move t (1 ∷ 0 ∷ []) $
        use2 𝓛 (later ((‵ ((ShrRef ℓ' (α ∷ []) R).own_val (record { ref_ptr = (b, o); now = h }) (vptr b o ∷ [])) ⊛ ‵ (flent (α ∷ []) (part_at R full_share h b o))) ⊛ ‵ (flft (α ∷ []) full_share)))
        (lends_shr 𝓛 R ℓ' (α ∷ []) full_share h b o [] (sh h) ((α ∷ [], full_share) ∷ []) (⊑_static (α ∷ [])) (Incl-refl (α ∷ []))) $ await t z $ split t $ split t $
        -- [the `&T`; the lender's part; the new token; the open borrow; obs; auth]
        move t (3 ∷ 4 ∷ 5 ∷ []) $ fjoin3 t $ move t (2 ∷ 0 ∷ []) $ fjoin t $ move t (1 ∷ 2 ∷ 0 ∷ []) $ k α)

    -- α is ended, and the `&mut T` is there again as it was
    pub unshares_ref : K → Soaks G → (R : RattleType) (ℓ : Lifetime) {κ : Lft} {q : Share} {γ : GName} {α : ℕ} (h : R.Denot) (b o : ℕ)
        → Step K 𝓛 (‵ ((MutRef ℓ κ R).own_val (record { ref_ptr = (b, o); ghost_name = γ; now = h }) (vptr b o ∷ [])) ∷ ‵ (flft κ q) ∷ Γ) G (‵ (flft (α ∷ []) full_share) ∷ ‵ (SharedRef R κ (α ∷ []) q γ b o h) ∷ Γ) G
    unshares_ref t z R ℓ h b o = step (λ s. lft_end t z $ move t (1 ∷ []) $ fsplit t $ move t (2 ∷ 0 ∷ []) $ lent_back t z $
        -- [the value; the open borrow, obs and auth]
        move t (1 ∷ []) $ fsplit3 t $ move t (3 ∷ []) $ close_ref t z (mem R) h {b = b} {o = o} $ feq_i t (List Val) (vptr b o ∷ []) (vptr b o ∷ []) refl $ fjoin3 t $ s)

    -- a `&mut [T]` and the token, for its elements side by side and what closes the borrow
    pub opens_row : K → Soaks G → (R : RattleType) (ℓ : Lifetime) {κ : Lft} {q : Share} {γ : GName} (ys : List R.Denot) (b o : ℕ)
        → Step K 𝓛 (‵ (row R full_share ys b o) ∷ ‵ (OpenSlice R κ q γ b o ys) ∷ Γ) G (‵ ((MutSlice ℓ κ R).own_val (record { ref_ptr = (b, o); ghost_name = γ; now = ys }) (slice_val (b, o) (length ys) ∷ [])) ∷ ‵ (flft κ q) ∷ Γ) G
    opens_row t z R ℓ ys b o = step (λ s. fsplit3 t $ drop t $ opens_slice t z R ys b o $ move t (1 ∷ 2 ∷ 3 ∷ []) $ fjoin3 t $ move t (1 ∷ 0 ∷ []) $ s)

    -- the other way, at another list of that length
    pub shuts_row : K → Soaks G → (R : RattleType) (ℓ : Lifetime) {κ : Lft} {q : Share} {γ : GName} (ys zs : List R.Denot) (b o : ℕ) → length zs ≡ length ys → Room R (length ys)
        → Step K 𝓛 (‵ ((MutSlice ℓ κ R).own_val (record { ref_ptr = (b, o); ghost_name = γ; now = zs }) (slice_val (b, o) (length ys) ∷ [])) ∷ ‵ (flft κ q) ∷ Γ) G (‵ (row R full_share zs b o) ∷ ‵ (OpenSlice R κ q γ b o ys) ∷ Γ) G
    shuts_row t z R ℓ {κ} {q} {γ} ys zs b o len room = step (λ s. move t (1 ∷ []) $ fsplit3 t $ move t (3 ∷ []) $ closes_slice t z R ys zs len b o $ fjoin t $
        pure_i t (mut_slice_at R (record { ref_ptr = (b, o); ghost_name = γ; now = zs }) (slice_val (b, o) (length ys) ∷ [])) (tt, (tt, tt)) (ap (λ (m : ℕ). slice_val (b, o) m ∷ []) (sym len), subst (Room R) (sym len) room) $ fjoin t $ s)

    -- a `&mut [T]` and the token, for the cell of element i and what closes the borrow
    pub opens_elem : K → Soaks G → (R : RattleType) (ℓ : Lifetime) (vals : R.Denot → List Val) → Tells R (Is R) vals → {κ : Lft} {q : Share} {γ : GName} (ys : List R.Denot) (i : ℕ) (d : R.Denot) (b o : ℕ) → i < length ys
        → (Is R (get_or ys i d) (vals (get_or ys i d)) → Seq K 𝓛 (‵ (cell_at full_share R.mir (vals (get_or ys i d)) b (place_of_lem (mem R).size o i)) ∷ ‵ (OpenAt R κ q γ b o ys i) ∷ Γ) G)
        → Seq K 𝓛 (‵ ((MutSlice ℓ κ R).own_val (record { ref_ptr = (b, o); ghost_name = γ; now = ys }) (slice_val (b, o) (length ys) ∷ [])) ∷ ‵ (flft κ q) ∷ Γ) G
    opens_elem t z R ℓ vals tl ys i d b o l k =
        opens_row t z R ℓ ys b o $ ix.elem_out t R (Is R) (shows 𝓛 R) vals tl full_share ys i d b o l (λ p.
        -- [the cell; what it owns; the others; what closes the slice]
        move t (1 ∷ []) $ drop t $ move t (1 ∷ 2 ∷ []) $ fjoin t $ move t (1 ∷ 0 ∷ []) $ k p)

    -- the other way, with another value at i
    pub shuts_elem : K → Soaks G → (R : RattleType) (ℓ : Lifetime) → Makes 𝓛 R (Is R) → {κ : Lft} {q : Share} {γ : GName} (ys : List R.Denot) (i : ℕ) (y : R.Denot) (vs : List Val) (b o : ℕ) → i < length ys → Room R (length ys) → Is R y vs
        → Step K 𝓛 (‵ ((MutSlice ℓ κ R).own_val (record { ref_ptr = (b, o); ghost_name = γ; now = set ys i y }) (slice_val (b, o) (length ys) ∷ [])) ∷ ‵ (flft κ q) ∷ Γ) G
        (‵ (cell_at full_share R.mir vs b (place_of_lem (mem R).size o i)) ∷ ‵ (OpenAt R κ q γ b o ys i) ∷ Γ) G
    shuts_elem t z R ℓ mk ys i y vs b o l room is = step (λ s. move t (1 ∷ []) $ fsplit t $ move t (2 ∷ []) $ owned t R (Is R) mk y vs is $ move t (1 ∷ 0 ∷ []) $
        elem_put t R full_share ys i y vs b o l $ shuts_row t z R ℓ ys (set ys i y) b o (length-set ys i y) room $ s)

    -- a `&mut [T]` is shared out, `&*s`, for a lifetime α that is made for it. T's values hold no `&mut`
    pub shares_slice : K → Soaks G → (R : RattleType) (ℓ ℓ' : Lifetime) → Shares 𝓛 R [] → {κ : Lft} {q : Share} {γ : GName} (ys : List R.Denot) (b o : ℕ) → Room R (length ys)
        → ((α : ℕ) → Seq K 𝓛 (‵ ((ShrSlice ℓ' (α ∷ []) R).own_val (record { ref_ptr = (b, o); now = ys }) (slice_val (b, o) (length ys) ∷ [])) ∷ ‵ (flft (α ∷ []) full_share) ∷ ‵ (SharedOut R κ (α ∷ []) q γ b o ys) ∷ Γ) G)
        → Seq K 𝓛 (‵ ((MutSlice ℓ κ R).own_val (record { ref_ptr = (b, o); ghost_name = γ; now = ys }) (slice_val (b, o) (length ys) ∷ [])) ∷ ‵ (flft κ q) ∷ Γ) G
    shares_slice t z R ℓ ℓ' sh ys b o room k =
        opens_row t z R ℓ ys b o $ feq_i t ℕ (length ys) (length ys) refl $ fjoin t $ lft_new t z (λ α. move t (1 ∷ 0 ∷ []) $
        use2 𝓛 (later ((‵ ((ShrSlice ℓ' (α ∷ []) R).own_val (record { ref_ptr = (b, o); now = ys }) (slice_val (b, o) (length ys) ∷ [])) ⊛ ‵ (flent (α ∷ []) ((arr_parts (shares R) (length ys)).part full_share ys b o))) ⊛ ‵ (flft (α ∷ []) full_share)))
        (lends_shr_slice 𝓛 R ℓ' (α ∷ []) full_share ys b o room [] sh ((α ∷ [], full_share) ∷ []) (⊑_static (α ∷ [])) (Incl-refl (α ∷ []))) $ await t z $ split t $ split t $
        -- [the `&[T]`; the lender's part; the new token; what closes the slice]
        move t (1 ∷ 3 ∷ []) $ fjoin t $ move t (1 ∷ 2 ∷ 0 ∷ []) $ k α)

    -- α is ended, and the `&mut [T]` is there again as it was
    pub unshares_slice : K → Soaks G → (R : RattleType) (ℓ : Lifetime) {κ : Lft} {q : Share} {γ : GName} {α : ℕ} (ys : List R.Denot) (b o : ℕ) → Room R (length ys)
        → Step K 𝓛 (‵ ((MutSlice ℓ κ R).own_val (record { ref_ptr = (b, o); ghost_name = γ; now = ys }) (slice_val (b, o) (length ys) ∷ [])) ∷ ‵ (flft κ q) ∷ Γ) G (‵ (flft (α ∷ []) full_share) ∷ ‵ (SharedOut R κ (α ∷ []) q γ b o ys) ∷ Γ) G
    unshares_slice t z R ℓ ys b o room = step (λ s. lft_end t z $ move t (1 ∷ []) $ fsplit t $ move t (2 ∷ 0 ∷ []) $ lent_back t z $ fsplit t $ drop t $ shuts_row t z R ℓ ys ys b o refl room $ s)

    -- a local's cell, written as what lies behind a reference is, and back
    pub to_raw : K → {τ : Ty} {b o : ℕ} {v : Val} → Step K 𝓛 (‵ (fat full_share (raw_ty τ) b o v) ∷ Γ) G (‵ (fat full_share τ b o v) ∷ Γ) G
    to_raw t {τ} {b} {o} {v} = use1 𝓛 (‵ (fat full_share (raw_ty τ) b o v)) (𝓛.laws.at_raw full_share τ b o v)

    pub from_raw : K → (τ : Ty) {b o : ℕ} {v : Val} → Step K 𝓛 (‵ (fat full_share τ b o v) ∷ Γ) G (‵ (fat full_share (raw_ty τ) b o v) ∷ Γ) G
    from_raw t τ {b} {o} {v} = use1 𝓛 (‵ (fat full_share τ b o v)) (𝓛.laws.raw_at full_share τ b o v)

    -- a local array is its elements side by side, each of them read and written by itself; and back
    pub opens_array : K → (R : RattleType) (m : ℕ) → Single R.mir → Makes 𝓛 R (Is R) → (ys : List R.Denot) (vs : List Val) (b o : ℕ) → Is (Array R m) ys vs
        → Step K 𝓛 (‵ (row R full_share ys b o) ∷ Γ) G (‵ (cell_at full_share (Array R m).mir vs b o) ∷ Γ) G
    unfolding part_of
    opens_array t R m one mk ys vs b o is = step (λ s. owned t (Array R m) (Is (Array R m)) (Array-Makes 𝓛 R mk m) ys vs is $ move t (1 ∷ 0 ∷ []) $ fjoin t $
        fpack t (List Val) (λ us. fsep (cell_at full_share (Array R m).mir us b o) ((Array R m).own_val ys us)) vs $
        use1 𝓛 (‵ ((arr_parts (shares R) m).part full_share ys b o)) (Array-apart 𝓛 R full_share one m ys b o) $ fsplit t $ drop t $ s)

    pub shuts_array : K → (R : RattleType) (vals : R.Denot → List Val) → Tells R (Is R) vals → (m : ℕ) (zs : List R.Denot) (b o : ℕ) → length zs ≡ m
        → (Is (Array R m) zs (array_vals vals zs) → Seq K 𝓛 (‵ (cell_at full_share (Array R m).mir (array_vals vals zs) b o) ∷ Γ) G)
        → Seq K 𝓛 (‵ (row R full_share zs b o) ∷ Γ) G
    unfolding part_of
    shuts_array t R vals tl m zs b o len k =
        feq_i t ℕ (length zs) m len $ fjoin t $ use1 𝓛 (‵ (part_at (Array R m) full_share zs b o)) (Array-whole 𝓛 R full_share m zs b o) $ fpick t (λ vs. fsplit t $
        spelt t (Array R m) (Is (Array R m)) (shows 𝓛 (Array R m)) (array_vals vals) (Array-Tells R vals tl m) full_share zs vs b o $ move t (1 ∷ []) $
        facts t (Array R m) (Is (Array R m)) (shows 𝓛 (Array R m)) zs (array_vals vals zs) (λ p. k p))

    -- a call has returned: what is had of it is the tokens i, the result's facts, and for the last values ws of the `&mut` parameters what says them and the `ensures`
    pub returned : K → Soaks G → (i : Item 𝓤) (R : RattleType) (Ls : Type 0) (L : Ls → Fml) (φ : R.Denot → Ls → Type 0) (v : Val)
        → ((r : R.Denot) (ws : Ls) → φ r ws → Is R r (v ∷ []) → Seq K 𝓛 (i ∷ ‵ (L ws) ∷ Γ) G)
        → Seq K 𝓛 (raw (H.⇛ (ex 𝓤 (λ (r : R.Denot). sep 𝓤 (sep 𝓤 (mean 𝓛 i) (sem 𝓛 (R.own_val r (v ∷ [])))) (ex 𝓤 (λ (ws : Ls). sep 𝓤 (sem 𝓛 (L ws)) (fact 𝓤 (φ r ws))))))) ∷ Γ) G
    returned t z i R Ls L φ v k =
        use1 𝓛 (later (some (λ (r : R.Denot). (i ⊛ ‵ (R.own_val r (v ∷ []))) ⊛ some (λ (ws : Ls). ‵ (L ws) ⊛ raw (fact 𝓤 (φ r ws)))))) (id⊢ 𝓤 _) $ await t z $ pick t (λ r. split t $ split t $ move t (1 ∷ []) $
        facts t R (Is R) (shows 𝓛 R) r (v ∷ []) (λ is. move t (1 ∷ []) $ pick t (λ ws. split t $ move t (1 ∷ []) $ heard t (φ r ws) (λ e. move t (1 ∷ 0 ∷ []) $ k r ws e is))))

    -- what a callee asks: its tokens and what its parameters own, with no `requires`
    pub asks : K → {i j : Item 𝓤} → Step K 𝓛 (raw (sep 𝓤 (sep 𝓤 (mean 𝓛 i) (mean 𝓛 j)) (emp 𝓤)) ∷ Γ) G (i ∷ j ∷ Γ) G
    asks t {i} {j} = use2 𝓛 (raw (sep 𝓤 (sep 𝓤 (mean 𝓛 i) (mean 𝓛 j)) (emp 𝓤)))
        (via 𝓤 (sep 𝓤 (emp 𝓤) (sep 𝓤 (mean 𝓛 i) (mean 𝓛 j))) (emp∗ 𝓤 (sep 𝓤 (mean 𝓛 i) (mean 𝓛 j))) (comm∗ 𝓤 (emp 𝓤) (sep 𝓤 (mean 𝓛 i) (mean 𝓛 j))))
