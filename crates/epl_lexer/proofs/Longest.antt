-- The reader reads the longest token.
use Rattle.std.proofs.Common.{◌≡◌, ℕ, ◌+◌, ◌-◌, ◌≤◌, Bool, true, false, cond, List, [], ◌∷◌, length, Option, Some, None, refl, sym, ap, ◌∙◌, subst, arith, ⊎_elim}
use Rattle.std.specs.Prelude.{◌&&◌, nat_le, slice_range}
use Rattle.std.proofs.lemmas.Bool.{cases_lt, leb-true, le-leb}
use Rattle.std.proofs.lemmas.Option.{same_Some}
use Rattle.grammar_forms.specs.Rule.{IsRun, has, apart}
use Rattle.grammar_forms.specs.Reader.{made, or_else}
use Rattle.grammar_forms.proofs.Runs.{ends}
use Rattle.grammar_forms.proofs.Sets.{apart_here}
use Rattle.epl_lexer.specs.declared.token.Kind.{Kind}
use Rattle.epl_lexer.specs.declared.token.Kind.TheVariants.{Name, Keyword, Integer, Decimal, Quoted, Sign, End}
use Rattle.epl_lexer.specs.Bytes.{row_of, from_on, digits, letters, word_bytes, quote, point, slash}
use Rattle.epl_lexer.specs.Spelling.{IsToken, IsWord, IsWhole, IsFraction, IsQuoted, Spells, begins_comment, keyword_number, sign_number}
use Rattle.epl_lexer.specs.Reading.{past, word_kind, word, number_behind, number, quoted, sign_found, sign_of, sign, token}
use Rattle.epl_lexer.proofs.Cuts.{Past, past_run, letter_in_word}
use Rattle.epl_lexer.proofs.Strings.{good_quoted, quoted_is}
use Rattle.epl_lexer.proofs.Signs.{sign_starts, SignThere, sign_there}

module _ (text : List ℕ) where
  no_comment_at : (set : List ℕ) (at : ℕ) → apart set slash ≡ true → has (row_of text) set at ≡ true → begins_comment text at ≡ false
  no_comment_at set at a h =
      ap (λ b. b && has (row_of text) (47 ∷ 42 ∷ []) (at + 1)) (apart_here (row_of text) set slash at a h)

  run_of : (set : List ℕ) (at : ℕ) → Past text set at → IsRun (row_of text) set at (past text set at)
  run_of set at p = record { some = p.some; within = p.within; each = p.each }

  -- a run ends no later than all its bytes do, and there where what follows is none of them
  run_within : (set : List ℕ) (at end : ℕ) → IsRun (row_of text) set at end → end ≤ past text set at
  run_within set at end r =
      let e = ends (row_of text) set (length text - at) at in
      let low = e.not_before in
      ⊎_elim
      (λ lt.
      let w = r.within in
      let isnt = e.last (omega arith) in
      let is = r.each (past text set at) low lt in absurd (cc))
      (λ le. le)
      (cases_lt (past text set at) end)

  run_stops : (set : List ℕ) (at end : ℕ) → IsRun (row_of text) set at end → has (row_of text) set end ≡ false → end ≡ past text set at
  run_stops set at end r isnt =
      let e = ends (row_of text) set (length text - at) at in
      let le = run_within set at end r in
      let some = r.some in
      ⊎_elim (λ lt. let is = e.each end (omega arith) lt in absurd (cc)) (λ ge. omega arith) (cases_lt end (past text set at))

  -- ---- which part reads

  at_letter : (at : ℕ) → has (row_of text) letters at ≡ true → token text at ≡ Some (word text at)
  unfolding token
  at_letter at l = ap (λ b. cond b (Some (word text at)) (cond (has (row_of text) digits at) (Some (number text at)) (cond (has (row_of text) quote at) (made Quoted (quoted text at)) (made Sign (sign text at))))) l

  at_digit : (at : ℕ) → has (row_of text) letters at ≡ false → has (row_of text) digits at ≡ true → token text at ≡ Some (number text at)
  unfolding token
  at_digit at l d =
      ap (λ b. cond b (Some (word text at)) (cond (has (row_of text) digits at) (Some (number text at)) (cond (has (row_of text) quote at) (made Quoted (quoted text at)) (made Sign (sign text at))))) l
      ∙ ap (λ b. cond b (Some (number text at)) (cond (has (row_of text) quote at) (made Quoted (quoted text at)) (made Sign (sign text at)))) d

  at_quote : (at : ℕ) → has (row_of text) letters at ≡ false → has (row_of text) digits at ≡ false → has (row_of text) quote at ≡ true → token text at ≡ made Quoted (quoted text at)
  unfolding token
  at_quote at l d q =
      ap (λ b. cond b (Some (word text at)) (cond (has (row_of text) digits at) (Some (number text at)) (cond (has (row_of text) quote at) (made Quoted (quoted text at)) (made Sign (sign text at))))) l
      ∙ ap (λ b. cond b (Some (number text at)) (cond (has (row_of text) quote at) (made Quoted (quoted text at)) (made Sign (sign text at)))) d
      ∙ ap (λ b. cond b (made Quoted (quoted text at)) (made Sign (sign text at))) q

  at_other : (at : ℕ) → has (row_of text) letters at ≡ false → has (row_of text) digits at ≡ false → has (row_of text) quote at ≡ false → token text at ≡ made Sign (sign text at)
  unfolding token
  at_other at l d q =
      ap (λ b. cond b (Some (word text at)) (cond (has (row_of text) digits at) (Some (number text at)) (cond (has (row_of text) quote at) (made Quoted (quoted text at)) (made Sign (sign text at))))) l
      ∙ ap (λ b. cond b (Some (number text at)) (cond (has (row_of text) quote at) (made Quoted (quoted text at)) (made Sign (sign text at)))) d
      ∙ ap (λ b. cond b (made Quoted (quoted text at)) (made Sign (sign text at))) q

  -- ---- what is read is a token

  word_spells : (at : ℕ) → has (row_of text) letters at ≡ true → IsToken text (word text at).0 at (word text at).1
  unfolding word letters digits word_bytes from_on
  word_spells at l = (no_comment_at letters at refl l, by_number (keyword_number (slice_range text at (past text word_bytes at))) refl) where
    is_word : IsWord text tt at (past text word_bytes at)
    is_word = (l, run_of word_bytes at (past_run text word_bytes at refl (letter_in_word text at l)))

    by_number : (o : Option ℕ) → keyword_number (slice_range text at (past text word_bytes at)) ≡ o → Spells text (word_kind (slice_range text at (past text word_bytes at)) o) at (past text word_bytes at)
    by_number None e = (is_word, refl, e)
    by_number (Some n) e = (is_word, e)

  abbrev is_fraction : ℕ → Bool
  is_fraction whole = has (row_of text) point whole && has (row_of text) digits (whole + 1)

  number_if : (at whole : ℕ) (t : Bool) → is_fraction whole ≡ t → number_behind text at whole ≡ cond t (Decimal (slice_range text at (past text digits (whole + 1))), past text digits (whole + 1)) (Integer (slice_range text at whole), whole)
  number_if at whole t e = ap (λ b. cond b (Decimal (slice_range text at (past text digits (whole + 1))), past text digits (whole + 1)) (Integer (slice_range text at whole), whole)) e

  number_spells : (at : ℕ) → has (row_of text) digits at ≡ true → IsToken text (number text at).0 at (number text at).1
  unfolding number digits from_on
  number_spells at d = (no_comment_at digits at refl d, by_test (is_fraction (past text digits at)) refl) where
    whole : Past text digits at
    whole = past_run text digits at refl d

    both : (p q : Bool) → (p && q) ≡ true → (p ≡ true) × (q ≡ true)
    both true q e = (refl, e)
    both false q e = cc

    by_test : (t : Bool) → is_fraction (past text digits at) ≡ t → Spells text (number_behind text at (past text digits at)).0 at (number_behind text at (past text digits at)).1
    by_test true e =
        let parts = both (has (row_of text) point (past text digits at)) (has (row_of text) digits (past text digits at + 1)) e in
        subst (λ (x : Kind × ℕ). Spells text x.0 at x.1) (sym (number_if at (past text digits at) true e))
        ((past text digits at, run_of digits at whole, (past text digits at + 1, (parts.0, refl), run_of digits (past text digits at + 1) (past_run text digits (past text digits at + 1) refl parts.1))), refl)
    by_test false e =
        subst (λ (x : Kind × ℕ). Spells text x.0 at x.1) (sym (number_if at (past text digits at) false e))
        (run_of digits at whole, refl)

  sign_if : (at len : ℕ) (x : ℕ × ℕ) → sign_of text at len ≡ Some x → (x.1 ≤ length text) × (sign_number (slice_range text at x.1) ≡ Some x.0)
  unfolding sign_of
  sign_if at len x h =
      let t = cond_then (nat_le (at + len) (length text)) (sign_found (at + len) (sign_number (slice_range text at (at + len)))) x h in
      by_number (sign_number (slice_range text at (at + len))) refl t.0 t.1 where
        cond_then : (b : Bool) (o : Option (ℕ × ℕ)) (x : ℕ × ℕ) → cond b o None ≡ Some x → (b ≡ true) × (o ≡ Some x)
        cond_then true o x h = (refl, h)
        cond_then false o x h = cc

        by_number : (o : Option ℕ) → sign_number (slice_range text at (at + len)) ≡ o → nat_le (at + len) (length text) ≡ true → sign_found (at + len) o ≡ Some x → (x.1 ≤ length text) × (sign_number (slice_range text at x.1) ≡ Some x.0)
        by_number None e le f = cc
        by_number (Some n) e le f =
            let same = same_Some _ _ f in
            let within : at + len ≤ length text = leb-true _ _ le in
            (subst (λ k. k ≤ length text) (ap (λ y. y.1) same) within, subst (λ (y : ℕ × ℕ). sign_number (slice_range text at y.1) ≡ Some y.0) same e)

  two_end : (at : ℕ) (x : ℕ × ℕ) → sign_of text at 2 ≡ Some x → x.1 ≡ at + 2
  unfolding sign_of
  two_end at x h = by_test (nat_le (at + 2) (length text)) (sign_number (slice_range text at (at + 2))) h where
    by_test : (b : Bool) (o : Option ℕ) → cond b (sign_found (at + 2) o) None ≡ Some x → x.1 ≡ at + 2
    by_test true None e = cc
    by_test true (Some n) e = sym (ap (λ y. y.1) (same_Some _ _ e))
    by_test false o e = cc

  sign_spells : (at : ℕ) (x : ℕ × ℕ) → sign text at ≡ Some x → IsToken text (Sign x.0) at x.1
  unfolding sign
  sign_spells at x h = by_comment (begins_comment text at) refl h where
    by_two : (o : Option (ℕ × ℕ)) → sign_of text at 2 ≡ o → or_else o (sign_of text at 1) ≡ Some x → (x.1 ≤ length text) × (sign_number (slice_range text at x.1) ≡ Some x.0)
    by_two None e f = sign_if at 1 x f
    by_two (Some y) e f = sign_if at 2 x (e ∙ f)

    by_comment : (t : Bool) → begins_comment text at ≡ t → cond t None (or_else (sign_of text at 2) (sign_of text at 1)) ≡ Some x → IsToken text (Sign x.0) at x.1
    by_comment true e f = cc
    by_comment false e f = (e, by_two (sign_of text at 2) refl f)

  pub reads_token : (at : ℕ) (x : Kind × ℕ) → token text at ≡ Some x → IsToken text x.0 at x.1
  reads_token at x h = by_letter (has (row_of text) letters at) refl where
    told : (y : Kind × ℕ) → token text at ≡ Some y → IsToken text y.0 at y.1 → IsToken text x.0 at x.1
    told y e i = subst (λ (z : Kind × ℕ). IsToken text z.0 at z.1) (same_Some _ _ (sym e ∙ h)) i

    by_quoted : has (row_of text) quote at ≡ true → (o : Option (List ℕ × ℕ)) → quoted text at ≡ o → token text at ≡ made Quoted o → IsToken text x.0 at x.1
    by_quoted q None e f = let g = sym h ∙ f in cc
    by_quoted q (Some y) e f =
        told (Quoted y.0, y.1) f (no_comment_at quote at refl q, (good_quoted text).sound at y e)

    by_sign : (o : Option (ℕ × ℕ)) → sign text at ≡ o → token text at ≡ made Sign o → IsToken text x.0 at x.1
    by_sign None e f = let g = sym h ∙ f in cc
    by_sign (Some y) e f = told (Sign y.0, y.1) f (sign_spells at y e)

    by_quote : has (row_of text) letters at ≡ false → has (row_of text) digits at ≡ false → (t : Bool) → has (row_of text) quote at ≡ t → IsToken text x.0 at x.1
    by_quote l d true q = by_quoted q (quoted text at) refl (at_quote at l d q)
    by_quote l d false q = by_sign (sign text at) refl (at_other at l d q)

    by_digit : has (row_of text) letters at ≡ false → (t : Bool) → has (row_of text) digits at ≡ t → IsToken text x.0 at x.1
    by_digit l true d = told (number text at) (at_digit at l d) (number_spells at d)
    by_digit l false d = by_quote l d (has (row_of text) quote at) refl

    by_letter : (t : Bool) → has (row_of text) letters at ≡ t → IsToken text x.0 at x.1
    by_letter true l = told (word text at) (at_letter at l) (word_spells at l)
    by_letter false l = by_digit l (has (row_of text) digits at) refl

  -- ---- every token is reached

  -- where a token ends, what is read ends there or later, and there only if it is that token
  pub record Reaches (k : Kind) (at end : ℕ) : Type 0 where
    pub kind : Kind
    pub last : ℕ
    pub found : token text at ≡ Some (kind, last)
    pub far : end ≤ last
    pub same : end ≡ last → k ≡ kind

  reach_word : (k : Kind) (at end : ℕ) → IsWord text tt at end → k ≡ word_kind (slice_range text at end) (keyword_number (slice_range text at end)) → Reaches k at end
  unfolding word
  reach_word k at end w is = record {
    kind = (word text at).0;
    last = (word text at).1;
    found = at_letter at w.0;
    far = run_within word_bytes at end w.1;
    same = λ e. is ∙ ap (λ n. word_kind (slice_range text at n) (keyword_number (slice_range text at n))) e;
  }

  not_letter : (set : List ℕ) (at : ℕ) → apart set letters ≡ true → has (row_of text) set at ≡ true → has (row_of text) letters at ≡ false
  not_letter set at a h = apart_here (row_of text) set letters at a h

  pub first_of : (set : List ℕ) (at end : ℕ) → IsRun (row_of text) set at end → has (row_of text) set at ≡ true
  first_of set at end r = r.each at (omega arith) r.some

  reach_whole : (at end : ℕ) (t : List ℕ) → IsWhole text tt at end → t ≡ slice_range text at end → Reaches (Integer t) at end
  unfolding number digits letters from_on
  reach_whole at end t r is = by_test (is_fraction (past text digits at)) refl where
    d : has (row_of text) digits at ≡ true
    d = first_of digits at end r

    le : end ≤ past text digits at
    le = run_within digits at end r

    found : token text at ≡ Some (number_behind text at (past text digits at))
    found = at_digit at (not_letter digits at refl d) d

    both : (p q : Bool) → (p && q) ≡ true → (p ≡ true) × (q ≡ true)
    both true q e = (refl, e)
    both false q e = cc

    by_test : (b : Bool) → is_fraction (past text digits at) ≡ b → Reaches (Integer t) at end
    by_test true e =
        let parts = both (has (row_of text) point (past text digits at)) (has (row_of text) digits (past text digits at + 1)) e in
        let more = past_run text digits (past text digits at + 1) refl parts.1 in
        let some = more.some in
        record {
          kind = Decimal (slice_range text at (past text digits (past text digits at + 1)));
          last = past text digits (past text digits at + 1);
          found = found ∙ ap Some (number_if at (past text digits at) true e);
          far = omega (arith, le, some);
          same = λ z. absurd (omega (arith, le, some, z));
        }
    by_test false e = record {
      kind = Integer (slice_range text at (past text digits at));
      last = past text digits at;
      found = found ∙ ap Some (number_if at (past text digits at) false e);
      far = le;
      same = λ z. ap Integer (is ∙ ap (λ n. slice_range text at n) z);
    }

  reach_fraction : (at end : ℕ) (t : List ℕ) → IsFraction text (tt, (tt, tt)) at end → t ≡ slice_range text at end → Reaches (Decimal t) at end
  unfolding number digits letters from_on
  reach_fraction at end t f is = record {
    kind = Decimal (slice_range text at (past text digits (past text digits at + 1)));
    last = past text digits (past text digits at + 1);
    found = at_digit at (not_letter digits at refl d) d ∙ ap Some (number_if at (past text digits at) true test);
    far = run_within digits (past text digits at + 1) end second;
    same = λ z. ap Decimal (is ∙ ap (λ n. slice_range text at n) z);
  } where
    d : has (row_of text) digits at ≡ true
    d = first_of digits at f.0 f.1

    mid : f.0 ≡ past text digits at
    mid = run_stops digits at f.0 f.1 (apart_here (row_of text) point digits f.0 refl f.2.1.0)

    next : f.2.0 ≡ past text digits at + 1
    next = f.2.1.1 ∙ ap (λ n. n + 1) mid

    second : IsRun (row_of text) digits (past text digits at + 1) end
    second = subst (λ n. IsRun (row_of text) digits n end) next f.2.2

    test : is_fraction (past text digits at) ≡ true
    test =
        ap (λ b. b && has (row_of text) digits (past text digits at + 1)) (subst (λ n. has (row_of text) point n ≡ true) mid f.2.1.0)
        ∙ first_of digits (past text digits at + 1) end second

  reach_quoted : (at end : ℕ) (v : List ℕ) → IsQuoted text v at end → Reaches (Quoted v) at end
  unfolding digits letters from_on
  reach_quoted at end v i =
      let q = (good_quoted text).begins v at end i in
      record {
        kind = Quoted v;
        last = end;
        found = at_quote at (not_letter quote at refl q) (apart_here (row_of text) quote digits at refl q) q ∙ ap (made Quoted) (sym (quoted_is text v at end i));
        far = omega arith;
        same = λ _. refl;
      }

  found_sign : (at len n : ℕ) → at + len ≤ length text → sign_number (slice_range text at (at + len)) ≡ Some n → sign_of text at len ≡ Some (n, at + len)
  unfolding sign_of
  found_sign at len n within h =
      ap (λ b. cond b (sign_found (at + len) (sign_number (slice_range text at (at + len)))) None) (le-leb _ _ within)
      ∙ ap (sign_found (at + len)) h

  reach_sign : (at end n : ℕ) → begins_comment text at ≡ false → end ≤ length text → sign_number (slice_range text at end) ≡ Some n → Reaches (Sign n) at end
  unfolding sign digits letters from_on
  reach_sign at end n no_comment within h = ⊎_elim one two there.size where
    there : SignThere text at end
    there = sign_there text at end n within h

    read : token text at ≡ made Sign (or_else (sign_of text at 2) (sign_of text at 1))
    read =
        at_other at (not_letter sign_starts at refl there.starts) (apart_here (row_of text) sign_starts digits at refl there.starts) (apart_here (row_of text) sign_starts quote at refl there.starts)
        ∙ ap (λ b. made Sign (cond b None (or_else (sign_of text at 2) (sign_of text at 1)))) no_comment

    by_two : end ≡ at + 1 → sign_of text at 1 ≡ Some (n, at + 1) → (o : Option (ℕ × ℕ)) → sign_of text at 2 ≡ o → Reaches (Sign n) at end
    by_two e single None f = record {
      kind = Sign n;
      last = at + 1;
      found = read ∙ ap (λ o. made Sign (or_else o (sign_of text at 1))) f ∙ ap (made Sign) single;
      far = omega (arith, e);
      same = λ _. refl;
    }
    by_two e single (Some y) f =
        let last : y.1 ≡ at + 2 = two_end at y f in
        record {
          kind = Sign y.0;
          last = y.1;
          found = read ∙ ap (λ o. made Sign (or_else o (sign_of text at 1))) f;
          far = omega (arith, e, last);
          same = λ z. absurd (omega (arith, e, last, z));
        }

    one : end ≡ at + 1 → Reaches (Sign n) at end
    one e =
        by_two e (found_sign at 1 n (omega (arith, e, within)) (subst (λ k. sign_number (slice_range text at k) ≡ Some n) e h)) (sign_of text at 2) refl

    two : end ≡ at + 2 → Reaches (Sign n) at end
    two e =
        let double = found_sign at 2 n (omega (arith, e, within)) (subst (λ k. sign_number (slice_range text at k) ≡ Some n) e h) in
        record {
          kind = Sign n;
          last = at + 2;
          found = read ∙ ap (λ o. made Sign (or_else o (sign_of text at 1))) double;
          far = omega (arith, e);
          same = λ _. refl;
        }

  pub reaches : (k : Kind) (at end : ℕ) → IsToken text k at end → Reaches k at end
  reaches (Name t) at end i =
      reach_word (Name t) at end i.1.0 (ap Name i.1.1 ∙ ap (word_kind (slice_range text at end)) (sym (ap keyword_number (sym i.1.1) ∙ i.1.2)))
  reaches (Keyword n) at end i =
      reach_word (Keyword n) at end i.1.0 (ap (word_kind (slice_range text at end)) (sym i.1.1))
  reaches (Integer t) at end i = reach_whole at end t i.1.0 i.1.1
  reaches (Decimal t) at end i = reach_fraction at end t i.1.0 i.1.1
  reaches (Quoted v) at end i = reach_quoted at end v i.1
  reaches (Sign n) at end i = reach_sign at end n i.0 i.1.0 i.1.1
  reaches End at end i = absurd i.1
