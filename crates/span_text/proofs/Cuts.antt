-- The first line of a text and what is left, and how many lines there are.
use Rattle.std.proofs.Common.{◌≡◌, ℕ, suc, ◌+◌, ◌<◌, ◌≤◌, Bool, true, false, cond, zero, List, [], ◌∷◌, length, take, drop, get_or, refl, sym, ap, ◌∙◌, subst, arith, ⊎_elim}
use Rattle.std.specs.List.{slice_split, position, position_or_len}
use Rattle.std.specs.Prelude.{not, nat_lt, Option, Some, None, IfSome}
use Rattle.std.specs.Str.{IsUtf8, IsCharBoundary}
use Rattle.std.proofs.lemmas.Str.{IsCharBoundary-before_ascii, IsCharBoundary-after_ascii}
use Rattle.std.specs.Str.Lines.{lines, lines_of_parts, strip_carriage_return}
use Rattle.std.proofs.lemmas.List.Splits.{slice_split_first, slice_split_none, length-slice_split}
use Rattle.std.proofs.lemmas.List.{length-drop}
use Rattle.std.proofs.lemmas.List.Sums.{prefix_len-le-length, prefix_len_passes, prefix_len_stops}
use Rattle.std.proofs.lemmas.Grind.{common_steps}
use Rattle.std.proofs.lemmas.Bool.{cases_lt, ne_eqb, ltb-true, ltb-false, eqb-true}
use Rattle.std.proofs.lemmas.Option.{cond_some}
use Rattle.span_text.specs.Place.{is_newline}

parts_more : (x : List ℕ) (parts : List (List ℕ)) → 0 < length parts → lines_of_parts (x ∷ parts) ≡ strip_carriage_return x ∷ lines_of_parts parts
parts_more x [] some = absurd (omega arith)
parts_more x (y ∷ more) some = refl

pub lines_first : (text : List ℕ) → position_or_len is_newline text < length text → lines text ≡ strip_carriage_return (take (position_or_len is_newline text) text) ∷ lines (drop (position_or_len is_newline text + 1) text)
lines_first text h =
    let rest = drop (position_or_len is_newline text + 1) text in
    ap lines_of_parts (slice_split_first is_newline text 0 h)
    ∙ parts_more (take (position_or_len is_newline text) text) (slice_split is_newline rest) (let n = length-slice_split is_newline rest in omega arith)

none_before : (text : List ℕ) (i d : ℕ) → not (is_newline (get_or text i d)) ≡ true → is_newline (get_or text i d) ≡ false
none_before text i d h = by_test (is_newline (get_or text i d)) h where
  by_test : (t : Bool) → not t ≡ true → t ≡ false
  by_test true h = cc
  by_test false h = refl

-- the part before the first newline, which the text has or hasn't
pub lines_last : (text : List ℕ) → 0 < length text → position_or_len is_newline text ≡ length text → lines text ≡ text ∷ []
lines_last text some h =
    ap lines_of_parts (slice_split_none is_newline text (λ i d l. none_before text i d (prefix_len_passes (λ x. not (is_newline x)) text i d (omega arith))))
    ∙ ap (λ t. cond t [] (text ∷ [])) (ne_eqb (length text) 0 (λ z. omega arith))

strip_within : (line : List ℕ) → length (strip_carriage_return line) ≤ length line
strip_within line = grind (arith, common_steps)

few_here : (text : List ℕ) → 0 < length text → ((rest : List ℕ) → length rest < length text → length (lines rest) ≤ length rest) → length (lines text) ≤ length text
few_here text some go = ⊎_elim cut whole (cases_lt (position_or_len is_newline text) (length text)) where
  cut : position_or_len is_newline text < length text → length (lines text) ≤ length text
  cut h =
      let n = length-drop (position_or_len is_newline text + 1) text in
      let e = ap length (lines_first text h) in
      let m = go (drop (position_or_len is_newline text + 1) text) (omega arith) in omega arith

  whole : length text ≤ position_or_len is_newline text → length (lines text) ≤ length text
  whole h =
      let le = prefix_len-le-length (λ x. not (is_newline x)) text in
      let e = ap length (lines_last text some (omega arith)) in omega arith

few : (turns : ℕ) (text : List ℕ) → length text ≤ turns → length (lines text) ≤ length text
few turns [] small = omega arith
few zero (b ∷ bs) small = absurd (omega arith)
few (suc turns) (b ∷ bs) small = few_here (b ∷ bs) (omega arith) (λ rest less. few turns rest (omega arith))

pub lines_few : (text : List ℕ) → length (lines text) ≤ length text
lines_few text = few (length text) text (omega arith)

pub lines_some : (text : List ℕ) → lines text ≡ [] → text ≡ []
lines_some [] h = refl
lines_some (b ∷ bs) h = absurd (⊎_elim cut whole (cases_lt (position_or_len is_newline (b ∷ bs)) (length (b ∷ bs)))) where
  cut : position_or_len is_newline (b ∷ bs) < length (b ∷ bs) → ⊥
  cut l = let e = sym h ∙ lines_first (b ∷ bs) l in cc

  whole : length (b ∷ bs) ≤ position_or_len is_newline (b ∷ bs) → ⊥
  whole l =
      let le = prefix_len-le-length (λ x. not (is_newline x)) (b ∷ bs) in
      let e = sym h ∙ lines_last (b ∷ bs) (omega arith) (omega arith) in cc

-- what the first newline tells of the lines
pub at_newline : (text : List ℕ) (at : ℕ) → Some at ≡ position is_newline text → (at < length text) × (get_or text at 0 ≡ 10) × (lines text ≡ strip_carriage_return (take at text) ∷ lines (drop (at + 1) text))
at_newline text at h =
    let found = cond_some (nat_lt (position_or_len is_newline text) (length text)) (position_or_len is_newline text) at (sym h) in
    let less : position_or_len is_newline text < length text = ltb-true _ _ found.0 in
    let stop = prefix_len_stops (λ x. not (is_newline x)) text 0 less in
    (subst (λ n. n < length text) found.1 less, subst (λ n. get_or text n 0 ≡ 10) found.1 (newline_there (get_or text (position_or_len is_newline text) 0) stop), subst (λ n. lines text ≡ strip_carriage_return (take n text) ∷ lines (drop (n + 1) text)) found.1 (lines_first text less)) where
      turned : (t : Bool) → not t ≡ false → t ≡ true
      turned true h = refl
      turned false h = cc

      newline_there : (b : ℕ) → not (is_newline b) ≡ false → b ≡ 10
      newline_there b h = eqb-true b 10 (turned (is_newline b) h)

pub without_newline : (text : List ℕ) → 0 < length text → None ≡ position is_newline text → lines text ≡ text ∷ []
without_newline text some h = by_test (nat_lt (position_or_len is_newline text) (length text)) refl where
  by_test : (t : Bool) → nat_lt (position_or_len is_newline text) (length text) ≡ t → lines text ≡ text ∷ []
  by_test true e = let f = h ∙ ap (λ t. cond t (Some (position_or_len is_newline text)) None) e in cc
  by_test false e =
      let le = prefix_len-le-length (λ x. not (is_newline x)) text in
      let ge : length text ≤ position_or_len is_newline text = ltb-false _ _ e in
      lines_last text some (omega arith)

pub newline_cuts : (text : List ℕ) (place : Option ℕ) → IsUtf8 text → place ≡ position is_newline text → IfSome place (λ at. IsCharBoundary text at × IsCharBoundary text (at + 1))
newline_cuts text None utf8 h = tt
newline_cuts text (Some at) utf8 h =
    let n = at_newline text at h in
    let b = n.1 in
    (IsCharBoundary-before_ascii text at n.0 (omega (arith, b)), IsCharBoundary-after_ascii text at utf8 n.0 (omega (arith, b)))
