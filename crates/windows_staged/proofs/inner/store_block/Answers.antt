-- `windows_staged::inner::store_block` meets its contract: from one window into the other. Assumes nothing.
use mathlib.Core.Path.{◌≡◌, refl, sym, ap, ◌∙◌}
use mathlib.Core.List.{List}
use Prim.Native.Nat.{ℕ, ◌+◌, ◌*◌}
use native.Mathlib.Omega.{arith}
use lib.ListN.{length}
use lib.Seq.{sets, length-sets}
use Rattle.units.specs.Bytes.{part}
use Rattle.units.proofs.Lists.{length-lent, lent-part, part-part}
use Rattle.windows_staged.proofs.inner.store_block.Goals as goal

pub overflow_mul-skip : goal.overflow_mul-skip
overflow_mul-skip c = omega (arith, c.requires.3)

pub overflow_add-front : goal.overflow_add-front
overflow_add-front c = omega (arith, c.requires.0, c.requires.3)

pub overflow_add-front-2 : goal.overflow_add-front-2
overflow_add-front-2 c = omega (arith, c.requires.0, c.requires.3)

pub overflow_add-front-then-back : goal.overflow_add-front-then-back
overflow_add-front-then-back c = omega (arith, c.requires.0, c.requires.3)

pub slice_bounds-put_bytes-end : goal.slice_bounds-put_bytes-end
slice_bounds-put_bytes-end c = omega (arith, c.requires.1, c.requires.3)

pub put_bytes-requires : goal.put_bytes-requires
put_bytes-requires c =
    let a = c.args in
    omega (arith, length-lent a.head.now (a.b + a.b + a.j * a.b) a.b (omega (arith, c.requires.1, c.requires.3)), c.requires.2, c.requires.3)

pub shape_of-tail-then-back : goal.shape_of-tail-then-back
shape_of-tail-then-back c = ap length c.put_bytes.ensures ∙ simp length-sets

pub returns-then-back : goal.returns-then-back
returns-then-back c =
    let a = c.args in
    let z : a.j * a.b ≡ 0 + a.j * a.b = omega arith in
    rw c.if-back.true (
      refl,
      c.put_bytes.ensures
          ∙ ap (λ (l : List ℕ). sets a.tail.now (a.j * a.b) l) (lent-part a.head.now (a.b + a.b + a.j * a.b) a.b ∙ sym (part-part a.head.now (a.b + a.b) 16384 (a.j * a.b) a.b c.requires.3))
          ∙ ap (λ (i : ℕ). sets a.tail.now i (part (part a.head.now (a.b + a.b) 16384) (a.j * a.b) a.b)) z,
    )

pub overflow_add-skip : goal.overflow_add-skip
overflow_add-skip c = omega (arith, c.requires.0, c.requires.3)

pub slice_bounds-put_bytes-end-2 : goal.slice_bounds-put_bytes-end-2
slice_bounds-put_bytes-end-2 c = omega (arith, c.requires.2, c.requires.3)

pub put_bytes-requires-2 : goal.put_bytes-requires-2
put_bytes-requires-2 c =
    let a = c.args in
    omega (arith, length-lent a.tail.now (a.j * a.b) a.b (omega (arith, c.requires.2, c.requires.3)), c.requires.1, c.requires.3)

pub shape_of-head : goal.shape_of-head
shape_of-head c = ap length c.put_bytes-2.ensures ∙ simp length-sets

pub returns : goal.returns
returns c =
    let a = c.args in
    let z : a.b + a.b + a.j * a.b ≡ a.b + (a.b + a.j * a.b) = omega arith in
    let y : 0 + a.j * a.b ≡ a.j * a.b = omega arith in
    let vs : List ℕ = part (part a.tail.now 0 16384) (a.j * a.b) a.b in
    rw c.if-back.false (
      c.put_bytes-2.ensures
          ∙ ap (λ (l : List ℕ). sets a.head.now (a.b + a.b + a.j * a.b) l)
          (lent-part a.tail.now (a.j * a.b) a.b ∙ ap (λ (i : ℕ). part a.tail.now i a.b) (sym y) ∙ sym (part-part a.tail.now 0 16384 (a.j * a.b) a.b c.requires.3))
          ∙ ap (λ (i : ℕ). sets a.head.now i vs) z,
      refl,
    )
