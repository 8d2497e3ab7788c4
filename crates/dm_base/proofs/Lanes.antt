-- Blocks of sixteen bytes, lane by lane.
use Rattle.std.proofs.Common.{◌≡◌, ℕ, zero, suc, ◌+◌, ◌*◌, ◌/◌, ◌%◌, ◌^◌, ◌<◌, List, [], ◌∷◌, ◌++◌, map, length}
use Rattle.std.proofs.Common.{get_or, replicate, bit_and, refl, sym, ap, ◌∙◌, arith, w8, Fits}
use Rattle.std.proofs.lemmas.List.{get_or-map, length-map, ext_get_or}
use Rattle.std.proofs.lemmas.Nat.{and_le_r, and_mask}
use Rattle.std.proofs.lemmas.Simd.{Each1-all, Each1-weaker, Each1-zip2, Each2-splat, below_from_Fits, length-zip2}
use Rattle.std.proofs.lemmas.Simd.{swz_l}
use Rattle.std.proofs.lemmas.Simd.{SwzOk, SwzOk-from_below, length-swz_l, get_or-swz_l_below}
use Rattle.std.specs.Prelude.{slice_index, slice_index_or}
use lib.Lanes.{zip2, Each1}
use Rattle.hex.specs.Hex.{encode_lower, encode_with, lower_digits}

abbrev pub IsBlock : List ℕ → Type 0
IsBlock v = (length v ≡ 16) × Each1 (Fits w8) v

lane_fits : (v : List ℕ) (i : ℕ) → Each1 (Fits w8) v → get_or v i 0 < 256
lane_fits [] i h = omega arith
lane_fits (x ∷ xs) zero h = h.0.fits
lane_fits (x ∷ xs) (suc i) h = lane_fits xs i h.1

-- ---- look-ups

abbrev pub down : ℕ → ℕ → ℕ
down a b = a / 2 ^ b

pub high_ok : (v : List ℕ) → IsBlock v → SwzOk w8 16 16 0 (zip2 down v (replicate 16 4))
high_ok v fits =
    let small = Each1-weaker (λ a. a < 256) (λ a. a / 16 < 16) (λ a h. omega arith) v (below_from_Fits w8 v fits.1) in
    SwzOk-from_below w8 16 1 16 0 (zip2 down v (replicate 16 4)) refl
    (omega (arith, length-zip2 down v (replicate 16 4) fits.0))
    (Each1-zip2 down (λ j. j < 16) v (replicate 16 4) (Each2-splat (λ a b. down a b < 16) v 16 4 small))

pub low_ok : (v : List ℕ) → IsBlock v → SwzOk w8 16 16 0 (zip2 bit_and v (replicate 16 15))
low_ok v fits =
    let small = Each1-all (λ a. bit_and a 15 < 16) (λ a. omega (arith, and_le_r a 15)) v in
    SwzOk-from_below w8 16 1 16 0 (zip2 bit_and v (replicate 16 15)) refl
    (omega (arith, length-zip2 bit_and v (replicate 16 15) fits.0))
    (Each1-zip2 bit_and (λ j. j < 16) v (replicate 16 15) (Each2-splat (λ a b. bit_and a b < 16) v 16 15 small))

one_block : (i j : ℕ) → i < 16 → 16 * ((0 + i) / 16) + j ≡ j
one_block i j h = omega arith

-- a table that is read at places g x below 16
pub looked_up : (t : List ℕ) (g : ℕ → ℕ) (v js : List ℕ) → IsBlock v → js ≡ map g v
    → ((x : ℕ) → x < 256 → g x < 16) → swz_l w8 16 t 0 js ≡ map (λ x. get_or t (g x) 0) v
looked_up t g v js fits e small =
    let long : length js ≡ 16 = ap length e ∙ length-map v g ∙ fits.0 in
    let same = length-swz_l w8 16 t 0 js in
    ext_get_or 0 _ _ (same ∙ long ∙ sym (length-map v (λ x. get_or t (g x) 0) ∙ fits.0)) (λ i h.
    let lt : i < 16 = omega (arith, same) in
    let within : i < length v = omega (arith, fits.0) in
    let is : get_or js i 0 ≡ g (get_or v i 0) = ap (λ l. get_or l i 0) e ∙ get_or-map g v i 0 0 within in
    let below : get_or js i 0 < 16 = omega (arith, small (get_or v i 0) (lane_fits v i fits.1)) in
    get_or-swz_l_below w8 16 t 0 js i (omega arith) below ∙ ap (λ k. get_or t k 0) (one_block i _ lt ∙ is)
    ∙ sym (get_or-map (λ x. get_or t (g x) 0) v i 0 0 within))

pub low_places : (v : List ℕ) → map (λ x. bit_and x 15) v ≡ map (λ x. x % 16) v
low_places [] = refl
low_places (x ∷ v) = λ i. and_mask x 4 i ∷ low_places v i

-- ---- turns

abbrev pub highs : List ℕ → List ℕ
highs v = map (λ b. slice_index lower_digits (b / 16)) v

abbrev pub lows : List ℕ → List ℕ
lows v = map (λ b. slice_index lower_digits (b % 16)) v

-- a lane of the first, and then the same of the second
abbrev pub turns : ℕ → ℕ → List ℕ
turns zero k = []
turns (suc n) k = k ∷ (16 + k) ∷ turns n (k + 1)

pub in_turns : (v : List ℕ) → length v ≡ 16
    → map (λ k. slice_index_or (highs v ++ lows v) k 0) (turns 16 0) ≡ encode_lower v
unfolding encode_with
in_turns (a ∷ b ∷ c ∷ d ∷ e ∷ f ∷ g ∷ h ∷ i ∷ j ∷ k ∷ l ∷ m ∷ n ∷ o ∷ p ∷ []) is = refl
in_turns v is = absurd (omega arith)
