-- A string with its escapes, one byte more at a time.
use Rattle.value_rules.proofs.Common.{ℕ, List, [], length, Some, None, refl, sym, ap, ◌∙◌, arith, inl, inr, none-some}
use Rattle.std.proofs.Common.{◌≡◌, ◌<◌, ◌∷◌, ◌++◌, ◌+◌, ◌-◌, ◌≤◌, take, drop, get_or, slice_range, append_assoc, append-nil, length-drop, unwrap_or}
use Rattle.std.specs.List.{flat_map}
use Rattle.std.proofs.lemmas.Bool.{ne_eqb}
use Rattle.std.proofs.lemmas.Bool.Decides.{leb_tells}
use Rattle.std.proofs.lemmas.List.{take_more, get_or-drop}
use Rattle.std.proofs.lemmas.Grind.{flat_map-append}
use Rattle.value_rules.specs.Texts.{escape_of, escaped}

-- only bytes of ASCII have escapes
past-ascii : (byte : ℕ) → 128 ≤ byte → escape_of byte ≡ None
past-ascii byte le =
    rw (ne_eqb byte 34 (λ e. omega arith), ne_eqb byte 92 (λ e. omega arith), ne_eqb byte 10 (λ e. omega arith), ne_eqb byte 13 (λ e. omega arith), ne_eqb byte 9 (λ e. omega arith)) refl

pub ascii : (byte : ℕ) (escape : List ℕ) → escape_of byte ≡ Some escape → byte < 128
ascii byte escape e = elim (leb_tells 128 byte) [ inl h ↦ absurd (none-some _ (sym (past-ascii byte h.1) ∙ e)) | inr h ↦ h.1 ]

-- the text up to a byte more
escaped-more : (text : List ℕ) (at : ℕ) → at < length text → flat_map escaped (take (at + 1) text) ≡ flat_map escaped (take at text) ++ escaped (get_or text at 0)
escaped-more text at lt = rw (take_more text at 0 lt, flat_map-append escaped (take at text) (get_or text at 0 ∷ [])) (simp append-nil)

range-more : (text : List ℕ) (from at : ℕ) → from ≤ at → at < length text → slice_range text from (at + 1) ≡ slice_range text from at ++ get_or text at 0 ∷ []
range-more text from at le lt =
    let n : at + 1 - from ≡ (at - from) + 1 = omega arith in
    let k : at - from < length (drop from text) = omega (arith, length-drop from text) in
    let i : from + (at - from) ≡ at = omega arith in
    let g : get_or (drop from text) (at - from) 0 ≡ get_or text at 0 = get_or-drop from text (at - from) 0 ∙ ap (λ m. get_or text m 0) i in
    ap (λ m. take m (drop from text)) n ∙ take_more (drop from text) (at - from) 0 k ∙ ap (λ b. take (at - from) (drop from text) ++ b ∷ []) g

-- a byte that is its own text
pub plain-step : (text out start : List ℕ) (from at : ℕ) → from ≤ at → at < length text → escape_of (get_or text at 0) ≡ None
    → out ++ slice_range text from at ≡ start ++ flat_map escaped (take at text) → out ++ slice_range text from (at + 1) ≡ start ++ flat_map escaped (take (at + 1) text)
plain-step text out start from at le lt e h = rw (range-more text from at le lt, escaped-more text at lt, e) (sym (append_assoc out (slice_range text from at) (get_or text at 0 ∷ [])) ∙ ap (λ x. x ++ get_or text at 0 ∷ []) h ∙ append_assoc start (flat_map escaped (take at text)) (get_or text at 0 ∷ []))

-- a byte that has an escape
pub escape-step : (text out start escape : List ℕ) (from at : ℕ) → at < length text → escape_of (get_or text at 0) ≡ Some escape
    → out ++ slice_range text from at ≡ start ++ flat_map escaped (take at text) → ((out ++ slice_range text from at) ++ escape) ++ slice_range text (at + 1) (at + 1) ≡ start ++ flat_map escaped (take (at + 1) text)
escape-step text out start escape from at lt e h =
    let z : at + 1 - (at + 1) ≡ 0 = omega arith in
    ap (λ m. ((out ++ slice_range text from at) ++ escape) ++ take m (drop (at + 1) text)) z
    ∙ append-nil ((out ++ slice_range text from at) ++ escape)
    ∙ ap (λ x. x ++ escape) h
    ∙ append_assoc start (flat_map escaped (take at text)) escape
    ∙ ap (λ x. start ++ x) (sym (escaped-more text at lt ∙ ap (λ o. flat_map escaped (take at text) ++ unwrap_or o (get_or text at 0 ∷ [])) e))
