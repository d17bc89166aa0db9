-- What stores leave of the agreement: the same bytes at the same place keep it, wherever that is; and so do any bytes between the tables. No contract cites this file. Assumes nothing.
use mathlib.Core.Path.{◌≡◌, refl, sym, ap, ◌∙◌}
use mathlib.Core.Logic.{◌⊎◌, inl, inr}
use mathlib.Core.Bool.{Bool, true, false}
use mathlib.Core.List.{List, [], ◌∷◌}
use Prim.Native.Nat.{ℕ, zero, suc, ◌+◌, ◌*◌, ◌-◌, ◌≤◌, ◌<◌}
use native.Mathlib.Nat.{suc-mul, mul-le-mul_right}
use native.Mathlib.Omega.{arith}
use borrow.Author.Tests.{eqb-true, eqb-false, ltb-true}
use lib.Dec.{eqb, ltb}
use lib.ListN.{length, get_or, set, length-set, get_or-eq_default}
use lib.Seq.{sets, length-sets, get_or-set_same, get_or-set_other, ext_get_or}
use Rattle.units.specs.declared.Guid.{Guid}
use Rattle.units.specs.Answer.{pick}
use Rattle.units.specs.Bytes.{part}
use Rattle.units.proofs.Lists.{length_part, get_d_part, get_d-out}
use Rattle.tables.specs.Places.{blocks, array_blocks, back_array, back_header}
use Rattle.tables.specs.Lens.{Side, Front, Back, Tables, other, copy_bytes, tables_at, with_tables_at}
use Rattle.tables.specs.Entries.{zeros}
use Rattle.tables.specs.Headers.{head_block}
use Rattle.tables.proofs.Orders.{split, by-test}
use Rattle.tables.proofs.Room.{Room}
use Rattle.tables.proofs.LensLaws.{tables-eq}
use Rattle.reader.specs.Reader.{array_byte_place}
use Rattle.staged.specs.declared.Update.{Update}
use Rattle.staged.specs.declared.Repair.{Repair}
use Rattle.staged.specs.Repairs.{mended}
use Rattle.staged.specs.Stores.{header_place, slot_store, header_store, stage_store, zero_store, block_store, repair_store}
use Rattle.pulled.proofs.Repairs.{blocks-whole}
use Rattle.writers.specs.Agree.{Watched, AgreeOn}

module _ {W : ℕ → Type 0} {n : ℕ} where
  agree-set : {xs ys : List ℕ} → AgreeOn W n xs ys → (at v : ℕ) → AgreeOn W n (set xs at v) (set ys at v)
  agree-set {xs} {ys} a at v =
      record {
        left = length-set xs at v ∙ a.left;
        right = length-set ys at v ∙ a.right;
        bytes = λ i w.
            by-test (eqb i at)
            (λ e. here i (eqb-true i at e))
            (λ e. get_or-set_other xs at i v 0 (eqb-false i at e) ∙ a.bytes i w ∙ sym (get_or-set_other ys at i v 0 (eqb-false i at e)));
      }
    where
      here : (i : ℕ) → i ≡ at → get_or (set xs at v) i 0 ≡ get_or (set ys at v) i 0
      here i e =
          let lx = a.left in
          let ly = a.right in
          let sx = length-set xs at v in
          let sy = length-set ys at v in
          split n at
          (λ h. get_or-eq_default (set xs at v) 0 (omega arith) ∙ sym (get_or-eq_default (set ys at v) 0 (omega arith)))
          (λ h. rw e (get_or-set_same xs at v 0 (omega arith) ∙ sym (get_or-set_same ys at v 0 (omega arith))))

  -- the same bytes at the same place
  pub agree-sets : {xs ys : List ℕ} → AgreeOn W n xs ys → (at : ℕ) (vs : List ℕ) → AgreeOn W n (sets xs at vs) (sets ys at vs)
  agree-sets a at [] = a
  agree-sets a at (v ∷ vs) = agree-sets (agree-set a at v) (suc at) vs

  pub agree-pick : {xs ys vs ws : List ℕ} (t : Bool) → (t ≡ true → AgreeOn W n xs ys) → (t ≡ false → AgreeOn W n vs ws) → AgreeOn W n (pick t xs vs) (pick t ys ws)
  agree-pick true f g = f refl
  agree-pick false f g = g refl

  -- ---- what is read of the tables

  pub agree-part : {xs ys : List ℕ} → AgreeOn W n xs ys → (at m : ℕ) → at + m ≤ n → ((i : ℕ) → i < m → W (at + i)) → part xs at m ≡ part ys at m
  agree-part {xs} {ys} a at m h w =
      let lx : length (part xs at m) ≡ m = length_part xs at m (omega (arith, a.left)) in
      let ly : length (part ys at m) ≡ m = length_part ys at m (omega (arith, a.right)) in
      ext_get_or 0 (part xs at m) (part ys at m) (lx ∙ sym ly)
      (λ i q. let b : i < m = omega arith in get_d_part xs at m i b ∙ a.bytes (at + i) (w i b) ∙ sym (get_d_part ys at m i b))

module _ {W : ℕ → Type 0} {n : ℕ} (B : ℕ) where
  pub agree-with : {xs ys : List ℕ} → AgreeOn W n xs ys → (t : Tables) → AgreeOn W n (with_tables_at B n xs t) (with_tables_at B n ys t)
  unfolding with_tables_at
  agree-with a t = agree-sets (agree-sets a B (copy_bytes Front t.front)) (back_array B n) (copy_bytes Back t.back)

  agree-slot : {xs ys : List ℕ} → AgreeOn W n xs ys → (s : Side) (u : Update) → AgreeOn W n (slot_store B n s u xs) (slot_store B n s u ys)
  unfolding slot_store
  agree-slot a s u = agree-sets a (array_byte_place B n s + 128 * (u.slot.0 - 1)) u.entry

  agree-header : {xs ys : List ℕ} → AgreeOn W n xs ys → (s : Side) (g : Guid) (m : ℕ) → AgreeOn W n (header_store B n s g m xs) (header_store B n s g m ys)
  unfolding header_store
  agree-header a s g m = agree-sets a (header_place B n s) (head_block B n s g m)

  -- bytes between the tables, which may differ, where W watches none
  pub agree-between : {xs ys : List ℕ} → AgreeOn W n xs ys → (at bt : ℕ) (vs ws : List ℕ) → ((i : ℕ) → W i → (i < B + B + 16384) ⊎ (back_array B n ≤ i))
      → B + B + 16384 ≤ at → at + length vs ≤ back_array B n → B + B + 16384 ≤ bt → bt + length ws ≤ back_array B n → AgreeOn W n (sets xs at vs) (sets ys bt ws)
  agree-between {xs} {ys} a at bt vs ws o h k h' k' =
      record {
        left = length-sets xs at vs ∙ a.left;
        right = length-sets ys bt ws ∙ a.right;
        bytes = λ i w. get_d-out xs at vs i (out at (length vs) i h k (o i w)) ∙ a.bytes i w ∙ sym (get_d-out ys bt ws i (out bt (length ws) i h' k' (o i w)));
      }
    where
      out : (at m i : ℕ) → B + B + 16384 ≤ at → at + m ≤ back_array B n → (i < B + B + 16384) ⊎ (back_array B n ≤ i) → (i < at) ⊎ (at + m ≤ i)
      out at m i h k (inl w) = inl (omega arith)
      out at m i h k (inr w) = inr (omega arith)

  pub agree-stage : {xs ys : List ℕ} → AgreeOn W n xs ys → (u : Update) (k : ℕ) → AgreeOn W n (stage_store B n u k xs) (stage_store B n u k ys)
  agree-stage a u zero = a
  agree-stage a u (suc zero) = agree-slot a Back u
  agree-stage a u (suc (suc zero)) = agree-header a Back u.guid u.parts
  agree-stage a u (suc (suc (suc zero))) = agree-slot a Front u
  agree-stage a u (suc (suc (suc (suc zero)))) = agree-header a Front u.guid u.parts
  agree-stage a u (suc (suc (suc (suc (suc k))))) = a

module _ {B n : ℕ} (r : Room B n) where
  pub roof : back_header B n + B ≡ blocks B n * B
  unfolding back_header
  roof =
      let c = r.count in
      let e : suc (blocks B n - 1) ≡ blocks B n = omega arith in
      sym (suc-mul (blocks B n - 1) B) ∙ ap (λ (x : ℕ). x * B) e

module _ {W : ℕ → Type 0} {B n : ℕ} (r : Room B n) (sub : (i : ℕ) → Watched B n i → W i) where
  front-part : {xs ys : List ℕ} → AgreeOn W n xs ys → (at m : ℕ) → B ≤ at → at + m ≤ B + B + 16384 → part xs at m ≡ part ys at m
  front-part a at m h k =
      agree-part a at m (let z = r.low in let y = r.seam in let x = r.top in omega arith) (λ i q. let f = r.first in sub (at + i) (inl (omega arith, omega arith)))

  back-part : {xs ys : List ℕ} → AgreeOn W n xs ys → (at m : ℕ) → back_array B n ≤ at → at + m ≤ back_header B n + B → part xs at m ≡ part ys at m
  back-part a at m h k =
      agree-part a at m (let x = r.top in omega arith) (λ i q. let f = r.last in let g = roof r in sub (at + i) (inr (omega arith, omega arith)))

  pub agree-tables : {xs ys : List ℕ} → AgreeOn W n xs ys → tables_at B n xs ≡ tables_at B n ys
  unfolding tables_at
  agree-tables a =
      let s = r.seam in
      tables-eq (front-part a B B (omega arith) (omega arith)) (front-part a (B + B) 16384 (omega arith) (omega arith))
      (back-part a (back_header B n) B (omega arith) (omega arith)) (back-part a (back_array B n) 16384 (omega arith) (omega arith))

  array-part : {xs ys : List ℕ} → AgreeOn W n xs ys → (s : Side) (o m : ℕ) → o + m ≤ 16384 → part xs (array_byte_place B n s + o) m ≡ part ys (array_byte_place B n s + o) m
  array-part a Front o m h = front-part a (B + B + o) m (omega arith) (omega arith)
  array-part a Back o m h = let s = r.seam in back-part a (back_array B n + o) m (omega arith) (omega arith)

  agree-block : {xs ys : List ℕ} → AgreeOn W n xs ys → (s : Side) (j : ℕ) → j < array_blocks B → AgreeOn W n (block_store B n s j xs) (block_store B n s j ys)
  unfolding block_store
  agree-block {xs} {ys} a s j h =
      let w = blocks-whole B n r in
      let u : suc j * B ≤ array_blocks B * B = mul-le-mul_right B (omega arith) in
      let v : suc j * B ≡ j * B + B = suc-mul j B in
      let e : part xs (array_byte_place B n (other s) + j * B) B ≡ part ys (array_byte_place B n (other s) + j * B) B = array-part a (other s) (j * B) B (omega arith) in
      rw e (agree-sets a (array_byte_place B n s + j * B) (part ys (array_byte_place B n (other s) + j * B) B))

  -- ---- the stages

  pub agree-repair : {xs ys : List ℕ} → AgreeOn W n xs ys → (u : Repair) (k : ℕ) → AgreeOn W n (repair_store B n u k xs) (repair_store B n u k ys)
  unfolding repair_store zero_store
  agree-repair a u zero = a
  agree-repair a u (suc zero) = agree-sets a (header_place B n (mended u)) (zeros B)
  agree-repair a u (suc (suc j)) =
      agree-pick (ltb j (array_blocks B)) (λ e. agree-block a (mended u) j (ltb-true _ _ e))
      (λ _. agree-pick (eqb j (array_blocks B)) (λ _. agree-header B a (mended u) u.guid u.parts) (λ _. a))
