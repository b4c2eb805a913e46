-- The ranges of the parts cover the vertices once.
use Rattle.std.proofs.Common.{◌≡◌, ℕ, ◌+◌, ◌-◌, ◌*◌, ◌/◌, ◌%◌, ◌<◌, ◌≤◌, refl, sym, ap, ◌∙◌, arith}
use Rattle.std.specs.Int.{div_ceil}
use Rattle.std.proofs.Math.Nat.{add-mul, lt_of_mul-lt-mul_right, mul_comm}
use Rattle.std.proofs.lemmas.Grind.{div_ceil_times}
use Rattle.std.proofs.lemmas.Nat.{div_below, div-mul-add, div-add-mod', mod_below, mul-le}
use Rattle.partition.specs.Parts.{chunk_size, IsInPart, CoverOnce}

-- p parts have room for n vertices
pub parts_suffice : (n p : ℕ) → 0 < p → n ≤ p * chunk_size n p
parts_suffice n p some =
    let room = (div_ceil_times n p some).0 in
    let more = mul-le (div_ceil n p) p (chunk_size n p) p (omega arith) (omega arith) in
    rw (mul_comm p (chunk_size n p)) (omega (arith, room, more))

-- a vertex of part i lies in the part's range
pub in_part : (n c i v : ℕ) → 0 < c → v < n → v / c ≡ i → IsInPart n c i v
in_part n c i v some below is =
    let whole : i * c + v % c ≡ v = ap (λ q. q * c + v % c) (sym is) ∙ div-add-mod' v c in
    let rest = mod_below v c some in
    record { low = omega arith; high = omega arith }

-- what lies in the range of part i is a vertex of that part
pub of_part : (n c i v : ℕ) → IsInPart n c i v → (v < n) × (v / c ≡ i)
of_part n c i v within =
    let low = within.low in
    let high = within.high in
    let place : i * c + (v - i * c) ≡ v = omega (arith, low, high) in
    (omega (arith, low, high), ap (λ u. u / c) (sym place) ∙ div-mul-add i c (v - i * c) (omega (arith, low, high)))

-- fewer vertices in a part are too few
least_chunk : (n p more : ℕ) → 0 < p → 0 < more → n ≤ p * more → chunk_size n p ≤ more
least_chunk n p more some any enough =
    let close = (div_ceil_times n p some).1 in
    let wide : (more + 1) * p ≡ p * more + p = omega (arith, add-mul more 1 p, mul_comm p more) in
    let below : div_ceil n p < more + 1 = lt_of_mul-lt-mul_right p (omega (arith, close, wide, enough)) in
    omega (arith, below, any)

pub cover_once : (n p : ℕ) → 0 < p → CoverOnce n (chunk_size n p) p
cover_once n p some =
    let c = chunk_size n p in
    let some_in : 0 < c = omega arith in
    let room = parts_suffice n p some in
    record {
      suffice = room;
      least = λ more. least_chunk n p more some;
      begins = omega arith;
      touches = λ i. refl;
      ends = λ i last. rw last (omega (arith, room));
      below = λ v h. div_below v c p some_in (omega (arith, room, h));
      within = λ v h. in_part n c (v / c) v some_in h refl;
      alone = λ i v. of_part n c i v;
    }
