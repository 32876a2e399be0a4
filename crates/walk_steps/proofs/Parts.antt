-- An element of an array inside a cell, beside the logic's `sub` for a struct's field: `look_in ! 0 (unraw ! τ (elem ! us j d l e (sub ! 4 refl (whole !))))` reads
-- `p.log[j]` of a `&Purse` that is looked into. It names no crate's type or function. Assumes nothing.
use mathlib.Core.Path.{◌≡◌, refl, ap, subst, ◌∙◌}
use Prim.Native.Nat.{ℕ, zero, suc, ◌+◌, ◌<◌}
use native.Mathlib.Nat.{not-suc-le-zero, le_of_suc-le-suc}
use mathlib.Core.List.{List, [], ◌∷◌}
use lib.ListN.{length, get_or, set, length-set}
use seplogic.Ra.Ura.{Ura}
use mir.Syntax.{Ty, ty_array}
use mir.Raw.{raw as raw_ty}
use mir.Val.{Val, vstruct, of_list}
use base.Logic.{SProp, ent, sep, wand, emp, all, id⊢, all_e, apply∗}
use base.Fml.{Share, fat}
use prog.Memory.{size}
use prog.Model.{elems}
use types.Logic.{Logic}
use types.Kit.{Item, ‵, raw, ◌⊛◌, mean, ◌$◌, ◌∵◌, !, qed, move, use1, use2, split, assume, frame, each, done}
use types.Part.{Part}
use denote.Index.{place}

set_same : {X : Type 0} (us : List X) (i : ℕ) (d : X) → set us i (get_or us i d) ≡ us
set_same [] i d = refl
set_same (u ∷ us) zero d = refl
set_same (u ∷ us) (suc i) d = ap (λ l. u ∷ l) (set_same us i d)

-- the cell with any value u gives back the entry, as `back u`
abbrev Way : {M : Type 1} {𝓤 : Ura M} (𝓛 : Logic 𝓤) → Share → Ty → ℕ → ℕ → (Val → Item 𝓤) → SProp 𝓤
Way {𝓤 = 𝓤} 𝓛 q τ b o back = all 𝓤 (λ (u : Val). wand 𝓤 (𝓛.H.at q τ b o u) (mean 𝓛 (back u)))

module _ {M : Type 1} {𝓤 : Ura M} (𝓛 : Logic 𝓤) (q : Share) (τ : Ty) (b : ℕ) where
  -- the elements but element i
  open 𝓛 use {H}

  abbrev rest : List Val → ℕ → ℕ → SProp 𝓤
  rest [] i o = emp 𝓤
  rest (u ∷ us) zero o = elems 𝓤 H q τ b (o + size τ) us
  rest (u ∷ us) (suc i) o = sep 𝓤 (H.at q τ b o u) (rest us i (o + size τ))

  takes : (us : List Val) (i : ℕ) (d : Val) (o : ℕ) → i < length us → ent 𝓤 (elems 𝓤 H q τ b o us) (sep 𝓤 (H.at q τ b (place (size τ) o i) (get_or us i d)) (rest us i o))
  takes [] i d o l = absurd (not-suc-le-zero l)
  takes (u ∷ us) zero d o l = id⊢ 𝓤 (elems 𝓤 H q τ b o (u ∷ us))
  takes (u ∷ us) (suc i) d o l =
      qed 𝓛 (‵ (fat q τ b o u) ∷ raw (elems 𝓤 H q τ b (o + size τ) us) ∷ []) ∵ move ! (1 ∷ []) $
      use1 𝓛 (‵ (fat q τ b (place (size τ) (o + size τ) i) (get_or us i d)) ⊛ raw (rest us i (o + size τ))) (takes us i d (o + size τ) (le_of_suc-le-suc l)) $ split ! $ frame ! $ move ! (1 ∷ 0 ∷ []) $ done !

  puts : (us : List Val) (i : ℕ) (u : Val) (o : ℕ) → i < length us → ent 𝓤 (sep 𝓤 (H.at q τ b (place (size τ) o i) u) (rest us i o)) (elems 𝓤 H q τ b o (set us i u))
  puts [] i u o l = absurd (not-suc-le-zero l)
  puts (v ∷ us) zero u o l = id⊢ 𝓤 (elems 𝓤 H q τ b o (u ∷ us))
  puts (v ∷ us) (suc i) u o l =
      qed 𝓛 (‵ (fat q τ b (place (size τ) (o + size τ) i) u) ∷ (‵ (fat q τ b o v) ⊛ raw (rest us i (o + size τ))) ∷ []) ∵ move ! (1 ∷ []) $ split ! $ move ! (2 ∷ 1 ∷ []) $
      use2 𝓛 (raw (elems 𝓤 H q τ b (o + size τ) (set us i u))) (puts us i u (o + size τ) (le_of_suc-le-suc l)) $ move ! (1 ∷ 0 ∷ []) $ done !

module _ {M : Type 1} {𝓤 : Ura M} {𝓛 : Logic 𝓤} {K : Type 0} where
  -- element j of an array's cell that p finds
  open 𝓛 use {H}

  pub elem : K → {i : Item 𝓤} {q : Share} {τ : Ty} {n b o : ℕ} {back : Val → Item 𝓤} (us : List Val) (j : ℕ) (d : Val) → j < length us → length us ≡ n
      → Part K 𝓛 i q (ty_array τ n) b o (vstruct (of_list us)) back → Part K 𝓛 i q τ b (place (size τ) o j) (get_or us j d) (λ u. back (vstruct (of_list (set us j u))))
  elem t {i} {q} {τ} {n} {b} {o} {back} us j d l e p = record {
    out = qed 𝓛 (i ∷ []) ∵ use1 𝓛 (‵ (fat q (ty_array τ n) b o (vstruct (of_list us))) ⊛ raw (Way 𝓛 q (ty_array τ n) b o back)) p.out $ split ! $
        use1 𝓛 (raw (elems 𝓤 H q τ b o us)) (𝓛.laws.at_elems q τ n b o us) $
        use1 𝓛 (‵ (fat q τ b (place (size τ) o j) (get_or us j d)) ⊛ raw (rest 𝓛 q τ b us j o)) (takes 𝓛 q τ b us j d o l) $ split ! $ frame ! $
        each ! (λ (u : Val). wand 𝓤 (H.at q τ b (place (size τ) o j) u) (mean 𝓛 (back (whole u)))) (λ u. assume {P = mean 𝓛 (back (whole u))} ! (‵ (fat q τ b (place (size τ) o j) u)) $
        -- [the element's cell with u; the others; the way back to the entry]
        use2 𝓛 (raw (elems 𝓤 H q τ b o (set us j u))) (puts 𝓛 q τ b us j u o l) $
        use1 𝓛 (‵ (fat q (ty_array τ n) b o (whole u))) (subst (λ (m : ℕ). ent 𝓤 (elems 𝓤 H q τ b o (set us j u)) (H.at q (ty_array τ m) b o (whole u))) (length-set us j u ∙ e) (𝓛.laws.elems_at q τ b o (set us j u))) $
        move ! (1 ∷ []) $ use1 𝓛 (raw (Entry (whole u))) (all_e 𝓤 Entry (whole u)) $ move ! (1 ∷ 0 ∷ []) $
        use2 𝓛 (back (whole u)) (apply∗ 𝓤 (H.at q (ty_array τ n) b o (whole u)) (mean 𝓛 (back (whole u)))) $ done !);
    same = ap (λ (vs : List Val). back (vstruct (of_list vs))) (set_same us j d) ∙ p.same;
  }
    where
      whole : Val → Val
      whole u = vstruct (of_list (set us j u))

      Entry : Val → SProp 𝓤
      Entry w = wand 𝓤 (H.at q (ty_array τ n) b o w) (mean 𝓛 (back w))

  -- a cell at the raw form of τ, as what lies behind a reference is, is one at τ
  pub unraw : K → {i : Item 𝓤} {q : Share} (τ : Ty) {b o : ℕ} {v : Val} {back : Val → Item 𝓤} → Part K 𝓛 i q (raw_ty τ) b o v back → Part K 𝓛 i q τ b o v back
  unraw t {i} {q} τ {b} {o} {v} {back} p = record {
    out = qed 𝓛 (i ∷ []) ∵ use1 𝓛 (‵ (fat q (raw_ty τ) b o v) ⊛ raw (Way 𝓛 q (raw_ty τ) b o back)) p.out $ split ! $
        use1 𝓛 (‵ (fat q τ b o v)) (𝓛.laws.raw_at q τ b o v) $ frame ! $
        each ! (λ (u : Val). wand 𝓤 (H.at q τ b o u) (mean 𝓛 (back u))) (λ u. assume {P = mean 𝓛 (back u)} ! (‵ (fat q τ b o u)) $
        use1 𝓛 (‵ (fat q (raw_ty τ) b o u)) (𝓛.laws.at_raw q τ b o u) $
        move ! (1 ∷ []) $ use1 𝓛 (raw (Entry u)) (all_e 𝓤 Entry u) $ move ! (1 ∷ 0 ∷ []) $ use2 𝓛 (back u) (apply∗ 𝓤 (H.at q (raw_ty τ) b o u) (mean 𝓛 (back u))) $ done !);
    same = p.same;
  }
    where
      Entry : Val → SProp 𝓤
      Entry w = wand 𝓤 (H.at q (raw_ty τ) b o w) (mean 𝓛 (back w))
