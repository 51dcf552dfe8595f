-- Words between blanks.
use Rattle.std.proofs.Common.{◌≡◌, ℕ, ◌+◌, ◌-◌, ◌<◌, ◌≤◌, ◌∷◌, zero, suc, List, [], length, take, drop, cond, true, false, refl, sym, ◌∙◌, ap, subst, arith, get_or}
use Rattle.std.specs.List.{filter, position_or_len, slice_split, before_first, after_first, onto_first}
use Rattle.std.proofs.lemmas.List.{drop_all, take_rest, length-take-le}
use Rattle.std.proofs.lemmas.List.Splits.{slice_split_first, slice_split_none}
use Rattle.std.proofs.lemmas.List.Sums.{fails_before_first, passes_at_first}
use Rattle.schedule_picks.specs.Picks.{is_blank, is_word, words_of}

-- a blank in front is no part of a word
pub blank_first : (b : ℕ) (bs : List ℕ) → is_blank b ≡ true → words_of (b ∷ bs) ≡ words_of bs
blank_first b bs h = ap (λ t. filter is_word (cond t ([] ∷ slice_split is_blank bs) (onto_first b (slice_split is_blank bs)))) h

-- a word in front of other parts
word_first : (word : List ℕ) (parts : List (List ℕ)) → 0 < length word → filter is_word (word ∷ parts) ≡ word ∷ filter is_word parts
word_first [] parts some = absurd (omega arith)
word_first (b ∷ bs) parts some = refl

-- the first blank isn't in front where something else is
past_first : (bs : List ℕ) → 0 < length bs → is_blank (get_or bs 0 0) ≡ false → 0 < position_or_len is_blank bs
past_first bs some h = go (position_or_len is_blank bs) refl
  where
    go : (n : ℕ) → position_or_len is_blank bs ≡ n → 0 < n
    go zero e = let blank : is_blank (get_or bs 0 0) ≡ true = subst (λ k. is_blank (get_or bs k 0) ≡ true) e (passes_at_first is_blank bs 0 (omega (arith, e, some))) in absurd (cc)
    go (suc n) e = omega arith

-- a text without blanks is one word
pub one_word : (text : List ℕ) (end : ℕ) → end ≡ position_or_len is_blank text → end ≡ length text → (length text ≡ 0 → ⊥) → words_of text ≡ text ∷ words_of (take (length text - end) (drop end text))
one_word text end is whole some =
    let alone : words_of text ≡ text ∷ [] = ap (filter is_word) (slice_split_none is_blank text (λ k d lt. fails_before_first is_blank text k d (omega arith))) ∙ word_first text [] (omega arith) in
    let rest : take (length text - end) (drop end text) ≡ [] = take_rest text end ∙ ap (λ n. drop n text) whole ∙ drop_all (length text) text (omega arith) in
    alone ∙ ap (λ r. text ∷ words_of r) (sym rest)

-- the first word ends at the first blank
pub cut_word : (text : List ℕ) (end : ℕ) → end ≡ position_or_len is_blank text → end ≤ length text → (end ≡ length text → ⊥) → (length text ≡ 0 → ⊥) → (0 < length text → is_blank (get_or text 0 0) ≡ false)
    → words_of text ≡ take end text ∷ words_of (take (length text - (end + 1)) (drop (end + 1) text))
cut_word text end is within apart some first =
    let lt : position_or_len is_blank text < length text = omega (arith, is) in
    let more : 0 < length (before_first is_blank text) = let there : 0 < length text = omega arith in let past = past_first text there (first there) in omega (arith, past, length-take-le (position_or_len is_blank text) text (omega arith)) in
    rw (take_rest text (end + 1), is)
    (ap (filter is_word) (slice_split_first is_blank text 0 lt) ∙ word_first (before_first is_blank text) (slice_split is_blank (after_first is_blank text)) more)
