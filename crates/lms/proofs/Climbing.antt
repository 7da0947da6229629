-- The climb from a leaf to the root.
use Prim.Native.Nat.{ℕ, suc, ◌/◌, ◌^◌}
use native.Mathlib.Nat.{pow-suc, div-div-eq-div-mul}
use mathlib.Core.Path.{◌≡◌}

-- One level more.
pub half : (node i : ℕ) → node / 2 ^ i / 2 ≡ node / 2 ^ suc i
half node i = rw (div-div-eq-div-mul, pow-suc)
