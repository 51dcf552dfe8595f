-- A search by halves for the first entry whose key isn't lesser.
use Rattle.std.proofs.Common.{◌≡◌, ◌+◌, ◌<◌, ◌≤◌}
use Rattle.evt_text.proofs.Common.{ℕ, Bool, true, false, List, length, sym, ap, arith, refl, ◌∙◌, Value, Pair, KeysAscend}
use Rattle.std.specs.Prelude.{slice_index_or}
use Rattle.std.proofs.Common.{true≢false}
use Rattle.std.proofs.lemmas.List.{get_or_default}
use Rattle.evt_text.specs.Entries.{is_before, count_before}
use Rattle.evt_text.proofs.Ascending.{counted, lesser_first}

-- all keys before low are lesser, and none from high on
pub record Halved (key : Value) (pairs : List Pair) (low high : ℕ) : Type 0 where
  pub order : low ≤ high
  pub within : high ≤ length pairs
  pub front : (k : ℕ) (d : Pair) → k < low → is_before key (slice_index_or pairs k d) ≡ true
  pub rest : (k : ℕ) (d : Pair) → high ≤ k → k < length pairs → is_before key (slice_index_or pairs k d) ≡ false

pub halved_whole : (key : Value) (pairs : List Pair) → Halved key pairs 0 (length pairs)
halved_whole key pairs = record {
  order = omega arith;
  within = omega arith;
  front = λ k d l. absurd (omega (arith, l));
  rest = λ k d a b. absurd (omega (arith, a, b));
}

not_true : (b : Bool) → (b ≡ true → ⊥) → b ≡ false
not_true true n = absurd (n refl)
not_true false n = refl

module _ (key : Value) (pairs : List Pair) (low high m : ℕ) (x : Pair) (ascend : KeysAscend pairs) (h : Halved key pairs low high) (from : low ≤ m) (to : m < high) (read : x ≡ slice_index_or pairs m x) where
  inside : m < length pairs
  inside = let w = h.within in omega (arith, to, w)

  there : (d : Pair) → slice_index_or pairs m d ≡ x
  there d = get_or_default pairs m d x inside ∙ sym read

  pub halved_upper : is_before key x ≡ true → Halved key pairs (m + 1) high
  halved_upper is = record {
    order = omega (arith, to);
    within = h.within;
    front = λ k d l. lesser_first key pairs ascend k m d (omega (arith, l)) inside (ap (is_before key) (there d) ∙ is);
    rest = h.rest;
  }

  pub halved_lower : is_before key x ≡ false → Halved key pairs low m
  halved_lower is = record {
    order = from;
    within = let w = h.within in omega (arith, to, w);
    front = h.front;
    rest = λ k d a b. not_true _ (λ yes. true≢false (sym (lesser_first key pairs ascend m k d a b yes) ∙ ap (is_before key) (there d) ∙ is));
  }

pub halved_end : (key : Value) (pairs : List Pair) (low high : ℕ) → Halved key pairs low high → high ≤ low → low ≡ count_before key pairs
halved_end key pairs low high h le =
    let a = h.order in
    let w = h.within in
    counted key pairs low (omega (arith, a, w)) ((λ k d i j. h.front k d j), (λ k d i j. h.rest k d (omega (arith, le, i)) j))
