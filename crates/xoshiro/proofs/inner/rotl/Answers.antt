-- `inner::rotl` meets its contract: the library's rotation, which takes its places modulo 64, is the definition's. Assumes nothing.
use Rattle.std.proofs.Common.{◌≡◌, ◌∙◌, ap, ℕ, ◌*◌, ◌^◌, ◌%◌, ◌/◌, ◌-◌, arith}
use lib.Bits.{bit_or}
use Rattle.xoshiro.proofs.Words.{rotated_or}
use Rattle.xoshiro.proofs.inner.rotl.Goals as goal

pub returns : goal.returns
returns c =
    let x = c.args.x in
    let k = c.args.k in
    let a : k % 64 ≡ k = omega arith in
    let b : (64 - k % 64) % 64 ≡ 64 - k = omega arith in
    c.rotate_left.ensures
    ∙ ap (λ (m : ℕ). bit_or ((x * 2 ^ m) % 2 ^ 64) (x / 2 ^ ((64 - k % 64) % 64))) a
    ∙ ap (λ (m : ℕ). bit_or ((x * 2 ^ k) % 2 ^ 64) (x / 2 ^ m)) b
    ∙ rotated_or x k (omega arith) (omega arith)
