-- Where the areas lie: levels go upward, one area ends before the next begins.
use Prim.Native.Nat.{ℕ, ◌≤◌, ◌+◌, ◌*◌}
use native.Mathlib.Omega.{arith}
use native.Mathlib.Nat.{mul-le-mul_left}
use mathlib.Core.Path.{◌≡◌}
use Rattle.memory.specs.Layout.{variables_place, list_place, string_place, stream_place}
use Rattle.memory.proofs.Texts.{step, mul_more}

module _ (u : ℕ) where
  -- a level more

  pub variables-next : (v : ℕ) → variables_place u (v + 1) ≡ variables_place u v + 16 * (u + 2)
  variables-next v = omega (arith, mul_more (u + 2) v)

  pub list-next : (h : ℕ) → list_place u (h + 1) ≡ list_place u h + 16 * u
  list-next h = omega (arith, mul_more u h)

  pub string-next : (h : ℕ) → string_place u (h + 1) ≡ string_place u h + u
  string-next h = omega (arith, mul_more u h)

  -- upward

  pub variables_up : {v v' : ℕ} → v ≤ v' → variables_place u v ≤ variables_place u v'
  variables_up {v} {v'} h = omega (arith, mul-le-mul_left (u + 2) h)

  pub list_up : {h h' : ℕ} → h ≤ h' → list_place u h ≤ list_place u h'
  list_up {h} {h'} l = omega (arith, mul-le-mul_left u l)

  pub string_up : {h h' : ℕ} → h ≤ h' → string_place u h ≤ string_place u h'
  string_up {h} {h'} l = omega (arith, mul-le-mul_left u l)

  pub stream_up : {k k' : ℕ} → k ≤ k' → stream_place u k ≤ stream_place u k'
  stream_up h = omega arith

  -- the areas one after the other

  pub variables-end : {v : ℕ} → v ≤ 10 → variables_place u v + 16 * (u + 2) ≤ list_place u 0
  variables-end {v} h = omega (arith, step (u + 2) v 11 (omega arith))

  pub list-end : {h : ℕ} → h ≤ 11 → list_place u h + 16 * u ≤ string_place u 0
  list-end {h} l = omega (arith, step u h 12 (omega arith))

  pub string-end : {h : ℕ} → h ≤ 10 → string_place u h + u ≤ stream_place u 0
  string-end {h} l = omega (arith, step u h 11 (omega arith))

  -- sixteen fields, sixteen variables

  pub fields_within : {n : ℕ} → n ≤ 16 → u * n ≤ 16 * u
  fields_within {n} h = omega (arith, mul-le-mul_left u h)

  pub variables-within : {n : ℕ} → n ≤ 16 → (u + 2) * n ≤ 16 * (u + 2)
  variables-within {n} h = omega (arith, mul-le-mul_left (u + 2) h)
