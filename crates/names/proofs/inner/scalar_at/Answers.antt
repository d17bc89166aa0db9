-- `names::inner::scalar_at` meets its contract. Assumes nothing.
use Rattle.names.proofs.Ways.{room, at_none, at_cut, at_one, at-two, at-three, at-four}
use native.Mathlib.Omega.{arith}
use Rattle.names.proofs.Decoded.{found}
use Rattle.names.proofs.inner.scalar_at.Goals as goal

pub returns-then-n-eq0 : goal.returns-then-n-eq0
returns-then-n-eq0 c =
    let n = c in
    let s = n in
    let a = s.args in
    found a.text.now a.at s.requires
    (at_none a.text.now a.at _ n.size_of-n.ensures c.if-n-eq0.true c.none.ensures)

pub returns-then-text-at : goal.returns-then-text-at
returns-then-text-at c =
    let n = c in
    let s = n in
    let a = s.args in
    found a.text.now a.at s.requires
    (at_cut a.text.now a.at _ n.size_of-n.ensures c.if-n-eq0.false (omega arith) c.none-then-text-at.ensures)

pub overflow_cast-result : goal.overflow_cast-result
overflow_cast-result c = omega (arith, c.type_inv.text c.args.at)

pub returns-then-n-eq1 : goal.returns-then-n-eq1
returns-then-n-eq1 c =
    let n = c in
    let s = n in
    let a = s.args in
    found a.text.now a.at s.requires
    (at_one a.text.now a.at _ n.size_of-n.ensures c.if-n-eq0.false (room s.requires c.if-text-at.false) c.if-n-eq1.true)

pub returns-then-n-eq2 : goal.returns-then-n-eq2
returns-then-n-eq2 c =
    let t = c in
    let n = t in
    let s = n in
    let a = s.args in
    found a.text.now a.at s.requires
    (at-two a.text.now a.at _ n.size_of-n.ensures
    t.if-n-eq0.false (room s.requires t.if-text-at.false) t.if-n-eq1.false t.if-n-eq2.true c.of_two.ensures)

pub returns-then-n-eq3 : goal.returns-then-n-eq3
returns-then-n-eq3 c =
    let t = c in
    let n = t in
    let s = n in
    let a = s.args in
    found a.text.now a.at s.requires
    (at-three a.text.now a.at _ n.size_of-n.ensures
    t.if-n-eq0.false (room s.requires t.if-text-at.false) t.if-n-eq1.false t.if-n-eq2.false t.if-n-eq3.true c.of_three.ensures)

pub returns : goal.returns
returns c =
    let t = c in
    let n = t in
    let s = n in
    let a = s.args in
    found a.text.now a.at s.requires
    (at-four a.text.now a.at _ n.size_of-n.ensures
    t.if-n-eq0.false (room s.requires t.if-text-at.false) t.if-n-eq1.false t.if-n-eq2.false t.if-n-eq3.false c.of_four.ensures)
