-- Strings: their characters from left to right, and that the reader reads them.
use Rattle.std.proofs.Common.{◌≡◌, ℕ, zero, suc, ◌+◌, ◌-◌, ◌<◌, ◌≤◌, true, false, cond, List, [], ◌∷◌, ◌++◌, length, get_or, take, drop, Option, Some, None, refl, sym, ap, ◌∙◌, subst, arith, ⊎_elim, inl, inr, Bor}
use Rattle.std.specs.Prelude.{◌⊎◌, slice_range, MatchOption}
use Rattle.std.proofs.lemmas.Bool.{cases_lt}
use Rattle.std.proofs.lemmas.Option.{cond_some, same_Some}
use Rattle.std.proofs.Math.Seq.{drop-cons}
use Rattle.grammar_forms.specs.Rule.{Many, contains, has}
use Rattle.grammar_forms.specs.Good.{Good}
use Rattle.grammar_forms.proofs.Sets.{apart_here, lacks}
use Rattle.grammar_forms.proofs.Good.{good_made, good_then, good_either}
use Rattle.grammar_forms.proofs.Many.{good_and_many}
use Rattle.grammar_forms.proofs.Items.{good_token}
use Rattle.grammar_forms.proofs.Joined.{good_item}
use Rattle.epl_lexer.specs.Bytes.{row_of, from_on, quote, backslash, plain_bytes, escape_bytes}
use Rattle.epl_lexer.specs.Spelling.{escaped, IsByte, IsEscape, IsCharacter, IsQuoted}
use Rattle.epl_lexer.specs.Reading.{byte_of, character, quoted, past}
use Rattle.epl_lexer.proofs.Sets.{lies_inside, has_here, has_not, same_byte}
use Rattle.grammar_forms.proofs.Runs.{ends}
use Rattle.std.specs.Str.{IsUtf8, IsCharBoundary}
use Rattle.epl_lexer.proofs.Cuts.{cut_before, cut_behind}

module _ (text : List ℕ) where
  good_byte_of : (set : List ℕ) → contains 256 set ≡ false → Good (row_of text) (IsByte text set) (byte_of text set) set []
  good_byte_of set lacks = good_token (row_of text) (byte_of text set) set (λ b at. (get_or text at 256 ≡ b) × (has (row_of text) set at ≡ true))
      (λ at x h. let t = cond_some (has (row_of text) set at) (get_or text at 256, at + 1) x h in ((ap (λ y. y.0) t.1, t.0), ap (λ y. y.1) (sym t.1)))
      (λ at b h. ap (λ t. cond t (Some (get_or text at 256, at + 1)) None) h.1 ∙ ap (λ c. Some (c, at + 1)) h.0)
      (λ at b h. (lies_inside text set lacks at h.1, h.1))

  pub good_character : Good (row_of text) (IsCharacter text) (character text) (plain_bytes ++ backslash) []
  unfolding character plain_bytes from_on
  good_character =
      good_either (good_byte_of plain_bytes refl)
      (good_made (λ x. escaped x.1) (good_then (good_item (row_of text) backslash (lies_inside text backslash refl)) (good_byte_of escape_bytes refl) refl)) refl

  pub good_quoted : Good (row_of text) (IsQuoted text) (quoted text) quote []
  unfolding quoted plain_bytes from_on
  good_quoted =
      good_made (λ x. x.0.1)
      (good_then (good_and_many (good_item (row_of text) quote (lies_inside text quote refl)) good_character refl refl) (good_item (row_of text) quote (lies_inside text quote refl)) refl)

  pub quoted_is : (value : List ℕ) (at end : ℕ) → IsQuoted text value at end → Some (value, end) ≡ quoted text at
  quoted_is value at end i =
      let c = good_quoted.covers value at end i in
      let stop = c.stops (lacks (row_of text) end) in
      sym (c.found ∙ ap (λ n. Some (c.tree, n)) stop ∙ ap (λ t. Some (t, end)) (c.same stop))

  pub not_quoted : (at : ℕ) → ((value : List ℕ) (end : ℕ) → IsQuoted text value at end → ⊥) → None ≡ quoted text at
  not_quoted at no_one = by_test (quoted text at) refl where
    by_test : (o : Option (List ℕ × ℕ)) → quoted text at ≡ o → None ≡ quoted text at
    by_test None e = sym e
    by_test (Some x) e = absurd (no_one x.0 x.1 (good_quoted.sound at x e))

  -- at one place there is one character
  same_character : (b c at end past : ℕ) → IsCharacter text b at end → IsCharacter text c at past → end ≡ past
  same_character b c at end past i j =
      let x = good_character.covers b at end i in
      let y = good_character.covers c at past j in
      sym (x.stops (lacks (row_of text) end)) ∙ ap (λ z. z.1) (same_Some _ _ (sym x.found ∙ y.found)) ∙ y.stops (lacks (row_of text) past)

  -- the characters up to where none begins are those up to any place, unless one begins there
  follow : (v : List ℕ) (at stop : ℕ) → Many (IsCharacter text) v at stop → ((b e : ℕ) → IsCharacter text b stop e → ⊥) → (w : List ℕ) (end : ℕ) → Many (IsCharacter text) w at end → (end ≡ stop) ⊎ ((b : ℕ) × (e : ℕ) × IsCharacter text b end e)
  follow [] at stop m stuck [] end n = inl (n ∙ sym m)
  follow [] at stop m stuck (c ∷ w) end n = absurd (stuck c n.0 (subst (λ k. IsCharacter text c k n.0) (sym m) n.1))
  follow (b ∷ v) at stop m stuck [] end n = inr (b, m.0, subst (λ k. IsCharacter text b k m.0) (sym n) m.1)
  follow (b ∷ v) at stop m stuck (c ∷ w) end n =
      let same = same_character c b at n.0 m.0 n.1 m.1 in
      follow v m.0 stop m.2 stuck w end (subst (λ k. Many (IsCharacter text) w k end) same n.2)

  -- where the characters end and neither a character nor a quote stands, there is no string
  pub unfinished : (v : List ℕ) (at stop : ℕ) → Many (IsCharacter text) v (at + 1) stop → ((b e : ℕ) → IsCharacter text b stop e → ⊥) → has (row_of text) quote stop ≡ false → (value : List ℕ) (end : ℕ) → IsQuoted text value at end → ⊥
  unfolding plain_bytes from_on
  unfinished v at stop m stuck isnt value end i =
      let parts = i.2 in
      let last = parts.0 in
      let inner = parts.1 in
      let behind : inner.0 ≡ at + 1 = inner.1.1 in
      let is = parts.2.0 in
      ⊎_elim
      (λ e. let yes = subst (λ n. has (row_of text) quote n ≡ true) e is in cc)
      (λ x.
      let begins = good_character.begins x.0 last x.1 x.2 in
      let no_one = apart_here (row_of text) quote (plain_bytes ++ backslash) last refl is in cc)
      (follow v (at + 1) stop m stuck i.0.0.1 last (subst (λ k. Many (IsCharacter text) i.0.0.1 k last) behind inner.2))

  many_then : (v w : List ℕ) (at mid end : ℕ) → Many (IsCharacter text) v at mid → Many (IsCharacter text) w mid end → Many (IsCharacter text) (v ++ w) at end
  many_then [] w at mid end m n = subst (λ k. Many (IsCharacter text) w k end) m n
  many_then (b ∷ v) w at mid end m n = (m.0, m.1, many_then v w m.0 mid end m.2 n)

  -- bytes that stand for themselves are characters
  plains : (n at : ℕ) → at + n ≤ length text → ((i : ℕ) → at ≤ i → i < at + n → has (row_of text) plain_bytes i ≡ true) → Many (IsCharacter text) (take n (drop at text)) at (at + n)
  plains zero at within each = omega arith
  plains (suc n) at within each =
      let rest = plains n (at + 1) (omega arith) (λ i a b. each i (omega arith) (omega arith)) in
      let one : IsCharacter text (get_or text at 0) at (at + 1) = inl ((same_byte text at (omega arith), each at (omega arith) (omega arith)), refl) in
      let end : at + 1 + n ≡ at + suc n = omega arith in
      let next : suc at ≡ at + 1 = omega arith in
      let cut : take (suc n) (drop at text) ≡ get_or text at 0 ∷ take n (drop (at + 1) text) = ap (take (suc n)) (drop-cons text at 0 (omega arith) ∙ ap (λ k. get_or text at 0 ∷ drop k text) next) in
      subst (λ w. Many (IsCharacter text) w at (at + suc n)) (sym cut) (at + 1, one, subst (λ k. Many (IsCharacter text) (take n (drop (at + 1) text)) (at + 1) k) end rest)

  -- a piece of such bytes, behind the characters before it
  pub piece : (v : List ℕ) (at from : ℕ) → Many (IsCharacter text) v at from → from ≤ length text → Many (IsCharacter text) (v ++ slice_range text from (past text plain_bytes from)) at (past text plain_bytes from)
  piece v at from m within =
      let e = ends (row_of text) plain_bytes (length text - from) from in
      let end : ℕ = past text plain_bytes from in
      let low = e.not_before in
      let high = e.not_past in
      let n : from + (end - from) ≡ end = omega arith in
      many_then v (slice_range text from end) at from end m
      (subst (λ k. Many (IsCharacter text) (slice_range text from end) from k) n (plains (end - from) from (omega arith) (λ i a b. e.each i a (omega arith))))

  -- an escape, behind the characters before it
  pub with_escape : (v : List ℕ) (at mid byte : ℕ) → Many (IsCharacter text) v at mid → IsEscape text byte mid (mid + 2) → Many (IsCharacter text) (v ++ byte ∷ []) at (mid + 2)
  with_escape v at mid byte m e = many_then v (byte ∷ []) at mid (mid + 2) m (mid + 2, inr e, refl)

  -- no character begins where neither a plain byte nor an escape does
  pub no_character : (at : ℕ) → has (row_of text) plain_bytes at ≡ false → ((byte end : ℕ) → IsEscape text byte at end → ⊥) → (b e : ℕ) → IsCharacter text b at e → ⊥
  no_character at isnt none b e (inl h) = let is = h.0.1 in cc
  no_character at isnt none b e (inr h) = none b e h

  pub plain_ended : (from : ℕ) → from ≤ length text → has (row_of text) plain_bytes (past text plain_bytes from) ≡ false
  unfolding plain_bytes from_on
  plain_ended from within =
      let e = ends (row_of text) plain_bytes (length text - from) from in
      let high = e.not_past in
      ⊎_elim (λ lt. e.last (omega arith)) (λ le. has_not text plain_bytes (past text plain_bytes from) le refl) (cases_lt (past text plain_bytes from) (length text))

  pub whole : (v : List ℕ) (at end : ℕ) → has (row_of text) quote at ≡ true → Many (IsCharacter text) v (at + 1) end → has (row_of text) quote end ≡ true → IsQuoted text v at (end + 1)
  whole v at end opens m closes = ((((tt, v), tt)), refl, (end, (at + 1, (opens, refl), m), (closes, refl)))

-- what the turns of the loop over a string's pieces owe
module _ (text v : List ℕ) (at from : ℕ) (m : Many (IsCharacter text) v (at + 1) from) where
  pub finished : (end : ℕ) → from ≤ length text → has (row_of text) quote at ≡ true → end ≡ past text plain_bytes from → has (row_of text) quote end ≡ true → Some (v ++ slice_range text from end, end + 1) ≡ quoted text at
  finished end within opens e closes =
      let inner = subst (λ k. Many (IsCharacter text) (v ++ slice_range text from k) (at + 1) k) (sym e) (piece text v (at + 1) from m within) in
      quoted_is text (v ++ slice_range text from end) at (end + 1) (whole text (v ++ slice_range text from end) at end opens inner closes)

  pub broken : (end : ℕ) → from ≤ length text → end ≡ past text plain_bytes from → has (row_of text) quote end ≡ false → ((byte past : ℕ) → IsEscape text byte end past → ⊥) → None ≡ quoted text at
  broken end within e isnt none =
      let inner = subst (λ k. Many (IsCharacter text) (v ++ slice_range text from k) (at + 1) k) (sym e) (piece text v (at + 1) from m within) in
      let plain = subst (λ k. has (row_of text) plain_bytes k ≡ false) (sym e) (plain_ended text from within) in
      not_quoted text at (unfinished text (v ++ slice_range text from end) at end inner (no_character text end plain none) isnt)

  pub cut_off : length text ≤ from → None ≡ quoted text at
  unfolding plain_bytes from_on
  cut_off past_it =
      let plain = has_not text plain_bytes from past_it refl in
      let slash = has_not text backslash from past_it refl in
      let isnt = has_not text quote from past_it refl in
      not_quoted text at (unfinished text v at from m (no_character text from plain (λ b e h. let is = h.2.1.0 in cc)) isnt)

  pub turned : (end byte : ℕ) → from ≤ length text → end ≡ past text plain_bytes from → IsEscape text byte end (end + 2) → Many (IsCharacter text) ((v ++ slice_range text from end) ++ byte ∷ []) (at + 1) (end + 2)
  turned end byte within e escape =
      let inner = subst (λ k. Many (IsCharacter text) (v ++ slice_range text from k) (at + 1) k) (sym e) (piece text v (at + 1) from m within) in
      with_escape text (v ++ slice_range text from end) (at + 1) end byte inner escape

-- what an escape is
module _ (text : List ℕ) (at : ℕ) where
  pub no_backslash : has (row_of text) backslash at ≡ false → (byte end : ℕ) → IsEscape text byte at end → ⊥
  no_backslash isnt byte end h = let is = h.2.1.0 in cc

  pub no_letter : has (row_of text) escape_bytes (at + 1) ≡ false → (byte end : ℕ) → IsEscape text byte at end → ⊥
  no_letter isnt byte end h =
      let next : h.2.0 ≡ at + 1 = h.2.1.1 in
      let is = subst (λ k. has (row_of text) escape_bytes k ≡ true) next h.2.2.0.1 in cc

  pub escape : has (row_of text) backslash at ≡ true → has (row_of text) escape_bytes (at + 1) ≡ true → at + 1 < length text → IsEscape text (escaped (get_or text (at + 1) 0)) at (at + 2)
  escape slash letter inside =
      let end : at + 2 ≡ at + 1 + 1 = omega arith in
      ((tt, get_or text (at + 1) 0), refl, (at + 1, (slash, refl), ((same_byte text (at + 1) inside, letter), end)))

  -- what `character_of` tells of the byte behind a `\`
  pub told : (byte : ℕ) (o : Option (Bor (List ℕ))) → has (row_of text) backslash at ≡ true → at + 1 < length text → byte ≡ get_or text (at + 1) 0 → MatchOption o (contains byte escape_bytes ≡ false) (λ s. (contains byte escape_bytes ≡ true) × (s.now ≡ escaped byte ∷ [])) → MatchOption o ((b end : ℕ) → IsEscape text b at end → ⊥) (λ s. (b : ℕ) × IsEscape text b at (at + 2) × (s.now ≡ b ∷ []))
  told byte None slash inside is h =
      no_letter (has_here text escape_bytes (at + 1) inside ∙ ap (λ b. contains b escape_bytes) (sym is) ∙ h)
  told byte (Some s) slash inside is h =
      (escaped (get_or text (at + 1) 0), escape slash (has_here text escape_bytes (at + 1) inside ∙ ap (λ b. contains b escape_bytes) (sym is) ∙ h.0) inside, h.1 ∙ ap (λ b. escaped b ∷ []) is)

  pub no_more : length text ≤ at + 1 → (byte end : ℕ) → IsEscape text byte at end → ⊥
  no_more past_it = no_letter (has_not text escape_bytes (at + 1) past_it refl)

-- a text may be cut before and behind an escape
module _ (text : List ℕ) (at end byte : ℕ) where
  pub escape_cut : IsEscape text byte at end → IsCharBoundary text at
  escape_cut e = cut_before text backslash at refl (lies_inside text backslash refl at e.2.1.0) e.2.1.0

  pub escape_behind : IsUtf8 text → IsEscape text byte at end → (at + 2 ≤ length text) × IsCharBoundary text (at + 2)
  escape_behind utf8 e =
      let next : e.2.0 ≡ at + 1 = e.2.1.1 in
      let letter = subst (λ k. has (row_of text) escape_bytes k ≡ true) next e.2.2.0.1 in
      let inside = lies_inside text escape_bytes refl (at + 1) letter in
      let two : at + 1 + 1 ≡ at + 2 = omega arith in
      (omega (arith, inside), subst (IsCharBoundary text) two (cut_behind text escape_bytes (at + 1) refl utf8 inside letter))

pub ruleset escapes = (no_backslash, no_more, told)
