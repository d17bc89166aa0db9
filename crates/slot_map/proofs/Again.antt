-- The map that was carried is the one that a fresh making gives: the card check still accepts the card, after any calls. No contract cites this file. Assumes nothing.
use mathlib.Core.Path.{◌≡◌, refl, sym, ap, ◌∙◌, subst}
use mathlib.Core.Bool.{Bool, true, false}
use mathlib.Core.List.{List, [], ◌∷◌}
use Prim.Native.Nat.{ℕ, zero, suc, ◌+◌, ◌*◌, ◌-◌, ◌^◌, ◌<◌}
use native.Mathlib.Nat.{pow-suc}
use native.Mathlib.Omega.{arith}
use lib.ListN.{length, take, drop, get_or}
use lib.Seq.{sets, get_or-drop}
use Rattle.units.specs.Answer.{Answer, accepted}
use Rattle.units.specs.Bytes.{part, le, num}
use Rattle.units.specs.Guids.{guid_at, tail_at, tail_bytes}
use Rattle.units.specs.Held.{Small, GuidHeld}
use Rattle.units.proofs.Chains.{judged-none, judged-zero}
use Rattle.units.proofs.Laws.{small-part}
use Rattle.units.proofs.Lists.{get_d-in, get_d-out}
use Rattle.partition.specs.declared.Partition.{Partition}
use Rattle.partition.specs.Held.{PartitionHeld}
use Rattle.partition.specs.Format.{tidied}
use Rattle.tables.specs.Lens.{Tables, tables, tables_at}
use Rattle.tables.specs.Entries.{zeros, set_entry}
use Rattle.tables.specs.Check.{guid_of, check, slot_check}
use Rattle.tables.proofs.Orders.{side}
use Rattle.tables.proofs.EntryLaws.{length-zeros}
use Rattle.tables.proofs.Good.{accepted-array}
use Rattle.card.specs.Calls.{put_at, put_check, put_bytes, clear_at, payload_at, payload_check}
use Rattle.history.specs.History.{Op, put, clear, payload, call, run, taken}
use Rattle.history.proofs.State.{State, state-check, state-guid, state-front, held_back, taken-zero, untaken-image}
use Rattle.history.proofs.Changes.{put-ok, put-done, clear-done, clear-slot, clear-check, small-zeros}
use Rattle.history.proofs.Payload.{payload-tables, payload-length}
use Rattle.history.proofs.Records.{held-named, small-record, length-put}
use Rattle.slot_map.specs.Map.{flags_in, made_answer, carried}
use Rattle.slot_map.proofs.Carry.{carried-is}

-- ---- bytes that fit their fields

le-fits : (n : ℕ) (l : List ℕ) → Small l → le (take n l) < 256 ^ n
unfolding le
le-fits zero l h = omega arith
le-fits (suc n) [] h = let p : 256 ^ suc n ≡ 256 ^ n * 256 = pow-suc 256 n in omega (arith, le-fits n [] h)
le-fits (suc n) (x ∷ l) h = let p : 256 ^ suc n ≡ 256 ^ n * 256 = pow-suc 256 n in omega (arith, h 0, le-fits n l (λ k. h (suc k)))

num-fits : (xs : List ℕ) (at n : ℕ) → Small xs → num xs at n < 256 ^ n
unfolding num
num-fits xs at n h = le-fits n (drop at xs) (λ k. rw (get_or-drop at xs k 0) (h (at + k)))

small-tail : (xs : List ℕ) (at : ℕ) → Small xs → Small (tail_bytes (tail_at xs at))
small-tail xs at h zero = h at
small-tail xs at h (suc zero) = h (at + 1)
small-tail xs at h (suc (suc zero)) = h (at + 2)
small-tail xs at h (suc (suc (suc zero))) = h (at + 3)
small-tail xs at h (suc (suc (suc (suc zero)))) = h (at + 4)
small-tail xs at h (suc (suc (suc (suc (suc zero))))) = h (at + 5)
small-tail xs at h (suc (suc (suc (suc (suc (suc zero)))))) = h (at + 6)
small-tail xs at h (suc (suc (suc (suc (suc (suc (suc zero))))))) = h (at + 7)
small-tail xs at h (suc (suc (suc (suc (suc (suc (suc (suc k)))))))) = omega arith

guid-fits : (xs : List ℕ) (at : ℕ) → Small xs → GuidHeld (guid_at xs at)
guid-fits xs at h =
    record {
      fields = record { low = num-fits xs at 4 h; mid = num-fits xs (at + 4) 2 h; high = num-fits xs (at + 6) 2 h };
      tail = small-tail xs (at + 8) h;
    }

small-set : (arr e : List ℕ) (k : ℕ) → length arr ≡ 16384 → k < 128 → length e ≡ 128 → Small arr → Small e → Small (set_entry arr k e)
unfolding set_entry
small-set arr e k la h le a b i =
    side (128 * k) (length e) i
    (λ o. subst (λ (x : ℕ). x < 256) (sym (get_d-out arr (128 * k) e i o)) (a i))
    (λ j l q. subst (λ (x : ℕ). x < 256) (sym (ap (λ (z : ℕ). get_or (sets arr (128 * k) e) z 0) q ∙ get_d-in arr (128 * k) e j (omega arith) l)) (b j))

-- what put stores
small_put : (p : Partition) → PartitionHeld p → Small (put_bytes p)
small_put p h =
    let k = held-named p h in
    let f = k.fields in
    small-record (tidied p)
    (record {
      fields = record {
        type = f.type;
        guid = f.guid;
        first = f.first;
        last = f.last;
        flags = record { reserved = omega arith; owner = f.flags.owner };
        long = f.long;
        units = f.units;
      };
      type = k.type;
      guid = k.guid;
    })

-- ---- a card that the check accepts, and whose bytes are bytes

record Fit (B : ℕ) (xs : List ℕ) : Type 0 where
  size : length xs < 2 ^ 64
  card : (check B (length xs) (tables B xs)).number ≡ 0
  small : Small (tables B xs).front.array
  guid : GuidHeld (guid_at (guid_of (tables B xs).front) 0)

fit_of : (B : ℕ) (xs : List ℕ) → Small xs → length xs < 2 ^ 64 → (check B (length xs) (tables B xs)).number ≡ 0 → Fit B xs
unfolding tables_at guid_of
fit_of B xs h l c =
    record {
      size = l;
      card = c;
      small = small-part xs (B + B) 16384 h;
      guid = guid-fits _ 0 (small-part (take 92 (part xs B B)) 56 16 (small-part (part xs B B) 0 92 (small-part xs B B h)));
    }

-- the tables as a call leaves them
fit-state : {B n : ℕ} {g arr ys : List ℕ} → State B n g arr ys → n < 2 ^ 64 → GuidHeld (guid_at g 0) → Small arr → Fit B ys
fit-state {B} {n} {g} {arr} {ys} k l h a =
    let s : State B (length ys) g arr ys = subst (λ (m : ℕ). State B m g arr ys) (sym k.size) k in
    let m : length ys < 2 ^ 64 = omega (arith, k.size) in
    record {
      size = m;
      card = state-check s m h a;
      small = subst Small (sym (state-front s)) a;
      guid = subst (λ (b : List ℕ). GuidHeld (guid_at b 0)) (sym (state-guid s)) (held_back (guid_at g 0) h);
    }

module _ (B : ℕ) (xs : List ℕ) (f : Fit B xs) where
  fit-put : (s : ℕ) (e : List ℕ) (r : ℕ) → length e ≡ 128 → Small e → (t : Bool) → taken (put_at B (length xs) xs s e r).answer ≡ t → Fit B (put_at B (length xs) xs s e r).image
  unfolding put_at
  fit-put s e r l b true h =
      let z : (put_check B (length xs) (tables B xs) s e r).number ≡ 0 = taken-zero tt _ xs _ h in
      let o = put-ok B (length xs) (tables B xs) s e r z in
      fit-state (put-done B (length xs) xs refl s e r l z) f.size f.guid
      (small-set (tables B xs).front.array e (s - 1) (accepted-array B (length xs) xs refl o.card) o.slot l f.small b)
  fit-put s e r l b false h = subst (Fit B) (sym (untaken-image tt _ xs _ h)) f

  fit-clear : (s : ℕ) (t : Bool) → taken (clear_at B (length xs) xs s).answer ≡ t → Fit B (clear_at B (length xs) xs s).image
  unfolding clear_at
  fit-clear s true h =
      let z : (slot_check B (length xs) (tables B xs) s).number ≡ 0 = taken-zero tt _ xs _ h in
      let a = accepted-array B (length xs) xs refl (clear-check B (length xs) (tables B xs) s z) in
      fit-state (clear-done B (length xs) xs refl s z) f.size f.guid
      (small-set (tables B xs).front.array (zeros 128) (s - 1) a (clear-slot B (length xs) (tables B xs) s z).1 (length-zeros 128) f.small (small-zeros 128))
  fit-clear s false h = subst (Fit B) (sym (untaken-image tt _ xs _ h)) f

  fit-payload : (s p : ℕ) (ys : List ℕ) (t : Bool) → taken (payload_at B (length xs) xs s p ys).answer ≡ t → Fit B (payload_at B (length xs) xs s p ys).image
  unfolding payload_at
  fit-payload s p ys true h =
      let z : (payload_check B (length xs) (tables B xs) s p (length ys)).number ≡ 0 = taken-zero (length ys) _ xs _ h in
      let i : List ℕ = (payload_at B (length xs) xs s p ys).image in
      let l : length (payload_at B (length xs) xs s p ys).image ≡ length xs = payload-length B (length xs) xs refl s p ys z in
      let t : tables B (payload_at B (length xs) xs s p ys).image ≡ tables B xs = ap (λ (m : ℕ). tables_at B m i) l ∙ payload-tables B (length xs) xs refl s p ys z in
      record {
        size = omega (arith, l, f.size);
        card = ap (λ (m : ℕ). (check B m (tables B i)).number) l ∙ ap (λ (t : Tables). (check B (length xs) t).number) t ∙ f.card;
        small = subst (λ (t : Tables). Small t.front.array) (sym t) f.small;
        guid = subst (λ (t : Tables). GuidHeld (guid_at (guid_of t.front) 0)) (sym t) f.guid;
      }
  fit-payload s p ys false h = subst (Fit B) (sym (untaken-image (length ys) _ xs _ h)) f

-- one call, and any calls
fit-one : (B : ℕ) (o : Op) (xs : List ℕ) → Fit B xs → Fit B (call B o xs).image
fit-one B (put s p h) xs f = fit-put B xs f s (put_bytes p) p.flags.reserved (length-put p h) (small_put p h) (call B (put s p h) xs).taken refl
fit-one B (clear s) xs f = fit-clear B xs f s (call B (clear s) xs).taken refl
fit-one B (payload s p ys) xs f = fit-payload B xs f s p ys (call B (payload s p ys) xs).taken refl

fit-run : (B : ℕ) (os : List Op) (xs : List ℕ) → Fit B xs → Fit B (run B os xs)
unfolding run
fit-run B [] xs f = f
fit-run B (o ∷ os) xs f = fit-run B os (call B o xs).image (fit-one B o xs f)

-- request 11/13: made once, and carried through any calls, the map is what a fresh making gives
pub made_again : (B : ℕ) (os : List Op) (xs : List ℕ) → Small xs → length xs < 2 ^ 64 → (m : List Bool) → made_answer B xs ≡ accepted m → made_answer B (run B os xs) ≡ accepted (carried B os xs m)
made_again B os xs h l m e =
    let c : (check B (length xs) (tables B xs)).number ≡ 0 = judged-zero (flags_in B xs) _ m e in
    let q : ◌≡◌ {A = Answer (List Bool)} (accepted (flags_in B xs)) (accepted m) = sym (judged-none (flags_in B xs) _ c) ∙ e in
    let d : flags_in B xs ≡ m = cc in
    judged-none (flags_in B (run B os xs)) _ (fit-run B os xs (fit_of B xs h l c)).card
    ∙ ap accepted (sym (carried-is B os xs) ∙ ap (carried B os xs) d)
