-- `rows::inner::meets` at the plan of a header's array promises what `rows::file_read_partitions` promises.
use Rattle.units.specs.Meanings.{means}
use Rattle.std.proofs.Common.{length, subst, ◌≡◌, rules}
use Rattle.rows.specs.Row.{partitions_read}
use Rattle.rows.specs.Plans.{plainly, planned, entries_found, plan_count}
use Rattle.rows.proofs.Laws.{row-shown, found_within, read-plainly}
use Rattle.lent_demo.proofs.laws.file_read_partitions.Goals as goal

pub returns : goal.returns
returns c =
    let a = c.args in
    let m = length a.row.now in
    let told = c.meets.ensures in
    let found : planned told.2.0.now told.0 ≡ entries_found told.2.0.now a.h a.b = search (rules, told.2.1) in
    let made = subst (λ xs. planned xs told.0 ≡ entries_found xs a.h a.b) told.2.2 found in
    let said : means c.meets.result ≡ plainly (plan_count told.1) = search (rules, told.4) in
    row-shown plainly (partitions_read a.img.now a.h a.b m) a.row.now
    made (found_within a.img.now a.h a.b m) (read-plainly a.img.now a.h a.b m a.row.now) told.3 said
