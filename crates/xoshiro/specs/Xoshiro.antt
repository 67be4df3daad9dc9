-- 02, wish 7: "the public generator xoshiro256++ of Blackman and Vigna, where sums wrap at 64 bits and words are rotated by 23 and 45".
use Rattle.std.specs.Prelude.{ℕ, ◌+◌, ◌-◌, ◌*◌, ◌/◌, ◌%◌, ◌^◌, Bool, cond, ◌&&◌, ◌==◌, bit_xor, nat_le, Option, Some, None}
use Rattle.xoshiro.specs.declared.State.{State}
use Rattle.xoshiro.specs.declared.Stepped.{Stepped}

-- words of 64 bits: a sum that wraps; x << k; x rotated left by k, for k above 0 and below 64
abbrev pub wrapped : ℕ → ℕ → ℕ
wrapped x y = (x + y) % 2 ^ 64

abbrev pub shifted : ℕ → ℕ → ℕ
shifted x k = (x * 2 ^ k) % 2 ^ 64

abbrev pub rotated : ℕ → ℕ → ℕ
rotated x k = (x * 2 ^ k) % 2 ^ 64 + x / 2 ^ (64 - k)

-- as published: "result = rotl(s[0] + s[3], 23) + s[0]; t = s[1] << 17;
-- s[2] ^= s[0]; s[3] ^= s[1]; s[1] ^= s[2]; s[0] ^= s[3]; s[2] ^= t; s[3] = rotl(s[3], 45)"
abbrev pub output_of : State → ℕ
output_of s = wrapped (rotated (wrapped s.s0 s.s3) 23) s.s0

abbrev pub next_of : State → State
next_of s =
    let t = shifted s.s1 17 in
    let x2 = bit_xor s.s2 s.s0 in
    let x3 = bit_xor s.s3 s.s1 in
    record { s0 = bit_xor s.s0 x3; s1 = bit_xor s.s1 x2; s2 = bit_xor x2 t; s3 = rotated x3 45 }

abbrev pub stepped_of : State → Stepped
stepped_of s = record { output = output_of s; state = next_of s }

-- x ^ (x << k)
abbrev pub smeared : ℕ → ℕ → ℕ
smeared k x = bit_xor x (shifted x k)

-- "Give the step back too: it restores the state before any step";
-- s[1] ^ s[2] is smeared 17 of the s[1] before the step, which smeared 17 and then 34 give back
abbrev pub back_of : State → State
back_of s =
    let x3 = rotated s.s3 19 in
    let s0 = bit_xor s.s0 x3 in
    let s1 = smeared 34 (smeared 17 (bit_xor s.s1 s.s2)) in
    record { s0 = s0; s1 = s1; s2 = bit_xor (bit_xor s.s1 s1) s0; s3 = bit_xor x3 s1 }

-- "A state of four zeros"
abbrev pub zeros : State
zeros = record { s0 = 0; s1 = 0; s2 = 0; s3 = 0 }

unfoldable pub zeros_of : State → Bool
zeros_of s = s.s0 == 0 && (s.s1 == 0 && (s.s2 == 0 && s.s3 == 0))

-- "A draw for lo..=hi is lo plus the output modulo hi - lo + 1; where a sender handed in holds lo above hi there is none"
unfoldable pub draw_of : ℕ → ℕ → ℕ → Option ℕ
draw_of output lo hi = cond (nat_le lo hi) (Some (lo + output % (hi - lo + 1))) None
