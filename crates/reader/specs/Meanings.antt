-- What the answer of good_copy means: the side of the table that the reader takes, or the refusal. Two answers which mean the same are the same. Assumes nothing.
use Rattle.std.specs.Prelude.{◌≡◌, refl, Result, Ok, Err}
use Rattle.std.proofs.Common.{ap}
use Rattle.units.specs.declared.Refusal.{Refusal}
use Rattle.units.specs.Answer.{Answer, accepted, refused}
use Rattle.units.specs.Refusals.{refused_by, refusal_of, back}
use Rattle.units.specs.Meanings.{one-meaning}
use Rattle.tables.specs.Lens.{Side, Front, Back}
use Rattle.reader.specs.declared.GoodCopy.{GoodCopy}
use Rattle.reader.specs.declared.GoodCopy.TheVariants as copy

abbrev pub side_taken : GoodCopy → Side
side_taken copy.Front = Front
side_taken copy.Back = Back

abbrev pub copy_means : Result GoodCopy Refusal → Answer Side
copy_means (Ok c) = accepted (side_taken c)
copy_means (Err w) = refused_by w

copy_of : Side → GoodCopy
copy_of Front = copy.Front
copy_of Back = copy.Back

copy_from : Answer Side → Result GoodCopy Refusal
copy_from (accepted s) = Ok (copy_of s)
copy_from (refused y) = Err (refusal_of y)

copy-back : (r : Result GoodCopy Refusal) → copy_from (copy_means r) ≡ r
unfolding copy_from copy_of
copy-back (Ok copy.Front) = refl
copy-back (Ok copy.Back) = refl
copy-back (Err w) = ap Err (back w)

pub copy-one : (r s : Result GoodCopy Refusal) → copy_means r ≡ copy_means s → r ≡ s
copy-one = one-meaning copy_means copy_from copy-back
