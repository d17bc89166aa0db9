-- What two calls of a reader or a writer do, one after the other, to the bytes that are known of it.
use Rattle.std.proofs.Common.{◌≡◌, ℕ, ◌+◌, ◌-◌, ◌≤◌, List, ◌++◌, Bool, true, false, length, take, drop, sym, ap, ◌∙◌, subst, arith, le_refl, take-add, length-drop, take_all, drop_at, length-take-le}
use Rattle.std.specs.declared.option.Option.{Option}
use Rattle.std.specs.Io.KnownBytes.{Appends}
use Rattle.std.proofs.lemmas.Slice.{take-put_mid_below}
use borrow.Rule.Slice.PartMut.{put_mid, post_of}
use lib.Seq.{take-append-le}
use Rattle.console.specs.Answers.{Writes}

-- a slice from a place to the end
pub slice-end : (xs : List ℕ) (s : ℕ) → take (length xs - s) (drop s xs) ≡ drop s xs
slice-end xs s =
    let len = length-drop s xs in
    take_all (length xs - s) (drop s xs) (omega arith)

-- a buffer whose first bytes were filled, once a read of n bytes has filled more behind them
pub filled-more : (a k n : ℕ) (xs ys : List ℕ) → a ≤ length xs → n ≤ length ys → take (a + n) (put_mid a k xs ys) ≡ take a xs ++ take n ys
filled-more a k n xs ys within fits =
    let after = post_of a k xs in
    take-add a n (put_mid a k xs ys)
    ∙ ap (λ l. l ++ take n (drop a (put_mid a k xs ys))) (take-put_mid_below a k xs ys a (le_refl a) within)
    ∙ ap (λ l. take a xs ++ l) (ap (take n) (drop_at (take a xs) (ys ++ after) a (length-take-le a xs within)) ∙ take-append-le n ys after fits)

-- a write that may have stopped wrote a part from the front
pub Writes-part : (a b : Option (List ℕ)) (went : Bool) (bs : List ℕ) → Writes a true b went bs → (n : ℕ) × Appends a b (take n bs)
Writes-part a b true bs p = (length bs, subst (Appends a b) (sym (take_all (length bs) bs (le_refl _))) p)
Writes-part a b false bs p = p
