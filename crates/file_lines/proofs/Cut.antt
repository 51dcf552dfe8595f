-- A file cut into its first line and the rest.
use Rattle.std.proofs.Common.{◌≡◌, ◌+◌, ◌-◌, ◌<◌, ◌≤◌, ◌∷◌, ◌==◌, ℕ, List, [], length, take, drop, cond, Some, refl, sym, ◌∙◌, ap, arith, length-drop}
use Rattle.std.specs.List.{position_or_len, slice_split, before_first, after_first}
use Rattle.std.specs.Str.Lines.{lines, lines_of_parts, strip_carriage_return}
use Rattle.std.proofs.lemmas.Bool.{ne_eqb}
use Rattle.std.proofs.lemmas.List.{drop_all, take_rest}
use Rattle.std.proofs.lemmas.List.Splits.{slice_split_first, slice_split_none, length-slice_split}
use Rattle.std.proofs.lemmas.List.Sums.{fails_before_first}
use Rattle.file_lines.specs.Lines.{TakesOff}

parts-front : (x : List ℕ) (parts : List (List ℕ)) → 0 < length parts → lines_of_parts (x ∷ parts) ≡ strip_carriage_return x ∷ lines_of_parts parts
parts-front x [] l = absurd (omega arith)
parts-front x (y ∷ more) l = refl

first-line : (bs : List ℕ) → position_or_len (λ b. b == 10) bs < length bs
    → lines bs ≡ strip_carriage_return (take (position_or_len (λ b. b == 10) bs) bs) ∷ lines (drop (position_or_len (λ b. b == 10) bs + 1) bs)
first-line bs lt =
    let p = λ (b : ℕ). b == 10 in
    ap lines_of_parts (slice_split_first p bs 0 lt) ∙ parts-front (before_first p bs) (slice_split p (after_first p bs)) (omega (arith, length-slice_split p (after_first p bs)))

last-line : (bs : List ℕ) → 0 < length bs → length bs ≤ position_or_len (λ b. b == 10) bs → lines bs ≡ bs ∷ lines (drop (length bs) bs)
last-line bs some le =
    let p = λ (b : ℕ). b == 10 in
    ap lines_of_parts (slice_split_none p bs (λ k d lt. fails_before_first p bs k d (omega arith))) ∙ ap (λ t. cond t [] (bs ∷ [])) (ne_eqb (length bs) 0 (λ z. omega arith))
    ∙ ap (λ r. bs ∷ lines r) (sym (drop_all (length bs) bs (omega arith)))

-- a line with its end is taken off
pub takes-first : (bs line : List ℕ) (end : ℕ) → end ≡ position_or_len (λ b. b == 10) bs → end ≤ length bs → (end ≡ length bs → ⊥) → line ≡ strip_carriage_return (take end bs)
    → TakesOff bs (take (length bs - (end + 1)) (drop (end + 1) bs)) (Some line)
takes-first bs line end e within ne is =
    let lt : position_or_len (λ b. b == 10) bs < length bs = omega (arith, e) in
    rw (take_rest bs (end + 1), is, e) (first-line bs lt, omega (arith, length-drop (position_or_len (λ b. b == 10) bs + 1) bs))

-- the last line, without an end, is taken off
pub takes-last : (bs : List ℕ) (end : ℕ) → end ≡ position_or_len (λ b. b == 10) bs → end ≡ length bs → (length bs ≡ 0 → ⊥) → TakesOff bs (take (length bs - end) (drop end bs)) (Some bs)
takes-last bs end e whole some =
    rw (take_rest bs end, whole) (last-line bs (omega arith) (omega (arith, e)), omega (arith, length-drop (length bs) bs))
