-- The tokens of a text are one list, and where they end without the text there is none.
use Rattle.std.proofs.Common.{◌≡◌, ℕ, ◌+◌, ◌<◌, ◌≤◌, true, false, List, [], ◌∷◌, ◌++◌, length, Some, None, Ok, Err, refl, sym, ap, ◌∙◌, subst, arith, ⊎_elim, inl, inr}
use Rattle.std.specs.Prelude.{◌&&◌}
use Rattle.std.proofs.lemmas.Bool.{cases_lt}
use Rattle.std.proofs.lemmas.Option.{same_Some}
use Rattle.grammar_forms.specs.Rule.{Many, contains, has}
use Rattle.grammar_forms.proofs.Sets.{apart_here, has_in}
use Rattle.span_text.specs.declared.spot.Spot.{Spot}
use Rattle.epl_lexer.specs.declared.token.Kind.{Kind}
use Rattle.epl_lexer.specs.declared.token.Kind.TheVariants.{Name, Keyword, Integer, Decimal, Quoted, Sign, End}
use Rattle.epl_lexer.specs.declared.token.Token.{Token}
use Rattle.epl_lexer.specs.declared.fault.LexFault.TheVariants.{Lex}
use Rattle.epl_lexer.specs.Bytes.{row_of, from_on, digits, letters, word_bytes, quote, slash, star, blanks}
use Rattle.epl_lexer.specs.Spelling.{IsToken, IsLongest, IsSpace, NoSpace, IsGap, IsLineComment, IsBlockComment, begins_comment}
use Rattle.epl_lexer.specs.Reading.{token}
use Rattle.epl_lexer.specs.Tokens.{IsLexFault, Stands, Lexes, AreTokens, NothingBegins, TellsTokens, end_token, start_of, spot_of}
use Rattle.epl_lexer.proofs.Sets.{lies_inside}
use Rattle.epl_lexer.proofs.Strings.{good_quoted}
use Rattle.epl_lexer.proofs.Signs.{sign_starts, sign_there}
use Rattle.epl_lexer.proofs.Longest.{reads_token, reaches, first_of}

module _ (text : List ℕ) where
  -- ---- one token at a place

  pub longest_read : (k : Kind) (at end : ℕ) → token text at ≡ Some (k, end) → IsLongest text k at end
  longest_read k at end h = record {
    token = reads_token text at (k, end) h;
    longest = λ other past i.
        let r = reaches text other at past i in
        subst (λ n. past ≤ n) (ap (λ y. y.1) (same_Some _ _ (sym r.found ∙ h))) r.far;
  }

  pub none_read : (at : ℕ) → token text at ≡ None → (k : Kind) (end : ℕ) → IsToken text k at end → ⊥
  none_read at h k end i = let r = reaches text k at end i in let f = r.found in cc

  longest_is : (k : Kind) (at end : ℕ) → IsLongest text k at end → token text at ≡ Some (k, end)
  longest_is k at end l =
      let r = reaches text k at end l.token in
      let i = reads_token text at (r.kind, r.last) r.found in
      let le = l.longest r.kind r.last i in
      let f = r.far in
      let e : end ≡ r.last = omega arith in
      r.found ∙ ap (λ n. Some (r.kind, n)) (sym e) ∙ ap (λ t. Some (t, end)) (sym (r.same e))

  -- ---- what a token begins with

  -- the first byte of a token is none of blanks
  token_first : (k : Kind) (at end : ℕ) → IsToken text k at end → (has (row_of text) blanks at ≡ false) × (at < length text)
  unfolding digits letters word_bytes from_on
  token_first (Name t) at end i = let h = i.1.0.0 in (apart_here (row_of text) letters blanks at refl h, lies_inside text letters refl at h)
  token_first (Keyword n) at end i =
      let h = i.1.0.0 in (apart_here (row_of text) letters blanks at refl h, lies_inside text letters refl at h)
  token_first (Integer t) at end i =
      let h = first_of text digits at end i.1.0 in (apart_here (row_of text) digits blanks at refl h, lies_inside text digits refl at h)
  token_first (Decimal t) at end i =
      let h = first_of text digits at i.1.0.0 i.1.0.1 in (apart_here (row_of text) digits blanks at refl h, lies_inside text digits refl at h)
  token_first (Quoted v) at end i =
      let h = (good_quoted text).begins v at end i.1 in (apart_here (row_of text) quote blanks at refl h, lies_inside text quote refl at h)
  token_first (Sign n) at end i =
      let h = (sign_there text at end n i.1.0 i.1.1).starts in (apart_here (row_of text) sign_starts blanks at refl h, lies_inside text sign_starts refl at h)
  token_first End at end i = absurd i.1

  begins_by : (at : ℕ) (second : List ℕ) → (has (row_of text) second (at + 1) ≡ true → has (row_of text) (47 ∷ 42 ∷ []) (at + 1) ≡ true) → has (row_of text) slash at ≡ true → has (row_of text) second (at + 1) ≡ true → begins_comment text at ≡ true
  begins_by at second wider a b =
      ap (λ t. t && has (row_of text) (47 ∷ 42 ∷ []) (at + 1)) a ∙ wider b

  pub token_no_space : (k : Kind) (at end : ℕ) → IsToken text k at end → NoSpace text at
  token_no_space k at end i last (inl h) = let is = h.0 in let isnt = (token_first k at end i).0 in cc
  token_no_space k at end i last (inr (inl h)) =
      let is = begins_by at slash (λ s. has_in (row_of text) slash (47 ∷ 42 ∷ []) (at + 1) refl s) h.opens.0 h.opens.1 in
      let isnt = i.0 in cc
  token_no_space k at end i last (inr (inr h)) =
      let is = begins_by at star (λ s. has_in (row_of text) star (47 ∷ 42 ∷ []) (at + 1) refl s) h.opens.0 h.opens.1 in
      let isnt = i.0 in cc

  pub ends_there : NothingBegins text (length text)
  ends_there = record {
    no_token = λ k end i. let h = (token_first k (length text) end i).1 in absurd (omega arith);
    no_space = nothing;
  } where
    out : (set : List ℕ) → contains 256 set ≡ false → has (row_of text) set (length text) ≡ true → ⊥
    out set lacks h = let i = lies_inside text set lacks (length text) h in absurd (omega arith)

    nothing : NoSpace text (length text)
    nothing end (inl h) = out blanks refl h.0
    nothing end (inr (inl h)) = out slash refl h.opens.0
    nothing end (inr (inr h)) = out slash refl h.opens.0

  -- ---- one gap from a place

  same_line : (at end past : ℕ) → IsLineComment text at end → IsLineComment text at past → (end < past → ⊥)
  same_line at end past l m lt =
      let a = l.behind in
      let w = m.within in
      let is = l.stops (omega arith) in
      let isnt = m.on_line end a lt in cc

  same_block : (at end past : ℕ) → IsBlockComment text at end → IsBlockComment text at past → (end < past → ⊥)
  same_block at end past l m lt =
      let e = l.ends in
      let f = m.ends in
      let isnt = m.first l.last l.behind (omega arith) in
      let is = l.closed in cc

  not_both : (at : ℕ) → has (row_of text) slash (at + 1) ≡ true → has (row_of text) star (at + 1) ≡ true → ⊥
  not_both at a b = let isnt = apart_here (row_of text) slash star (at + 1) refl a in cc

  not_blank : (at : ℕ) → has (row_of text) blanks at ≡ true → has (row_of text) slash at ≡ true → ⊥
  not_blank at a b = let isnt = apart_here (row_of text) blanks slash at refl a in cc

  neither : (a b : ℕ) → (a < b → ⊥) → (b < a → ⊥) → a ≡ b
  neither a b f g =
      ⊎_elim (λ lt. absurd (f lt)) (λ le. ⊎_elim (λ lt. absurd (g lt)) (λ ge. omega arith) (cases_lt b a)) (cases_lt a b)

  one_space : (at end past : ℕ) → IsSpace text tt at end → IsSpace text tt at past → end ≡ past
  one_space at end past (inl h) (inl k) = h.1 ∙ sym k.1
  one_space at end past (inl h) (inr (inl k)) = absurd (not_blank at h.0 k.opens.0)
  one_space at end past (inl h) (inr (inr k)) = absurd (not_blank at h.0 k.opens.0)
  one_space at end past (inr (inl h)) (inl k) = absurd (not_blank at k.0 h.opens.0)
  one_space at end past (inr (inl h)) (inr (inl k)) =
      neither end past (same_line at end past h k) (same_line at past end k h)
  one_space at end past (inr (inl h)) (inr (inr k)) = absurd (not_both at h.opens.1 k.opens.1)
  one_space at end past (inr (inr h)) (inl k) = absurd (not_blank at k.0 h.opens.0)
  one_space at end past (inr (inr h)) (inr (inl k)) = absurd (not_both at k.opens.1 h.opens.1)
  one_space at end past (inr (inr h)) (inr (inr k)) =
      neither end past (same_block at end past h k) (same_block at past end k h)

  one_gap : (xs ys : List (Unit {0})) (at p q : ℕ) → Many (IsSpace text) xs at p → Many (IsSpace text) ys at q → NoSpace text p → NoSpace text q → p ≡ q
  one_gap [] [] at p q m n a b = m ∙ sym n
  one_gap [] (y ∷ ys) at p q m n a b = absurd (a n.0 (subst (λ k. IsSpace text tt k n.0) (sym m) n.1))
  one_gap (x ∷ xs) [] at p q m n a b = absurd (b m.0 (subst (λ k. IsSpace text tt k m.0) (sym n) m.1))
  one_gap (x ∷ xs) (y ∷ ys) at p q m n a b =
      let same = one_space at n.0 m.0 n.1 m.1 in
      one_gap xs ys m.0 p q m.2 (subst (λ k. Many (IsSpace text) ys k q) same n.2) a b

  gap_join : (xs ys : List (Unit {0})) (at mid end : ℕ) → Many (IsSpace text) xs at mid → Many (IsSpace text) ys mid end → Many (IsSpace text) (xs ++ ys) at end
  gap_join [] ys at mid end m n = subst (λ k. Many (IsSpace text) ys k end) m n
  gap_join (x ∷ xs) ys at mid end m n = (m.0, m.1, gap_join xs ys m.0 mid end m.2 n)

  -- ---- one list of tokens

  same_token : (t u : Token) → Stands text t → Stands text u → t.from ≡ u.from → t ≡ u
  same_token t u s r e =
      let x = longest_is t.kind t.from t.to s.0 in
      let y = longest_is u.kind u.from u.to r.0 in
      let both = same_Some _ _ (sym x ∙ ap (token text) e ∙ y) in
      let spot = s.1 ∙ ap (spot_of text) e ∙ sym r.1 in
      λ i. record { kind = (both i).0; from = e i; to = (both i).1; spot = spot i }

  one_list : (ts us : List Token) (at p q : ℕ) → Lexes text ts at p → Lexes text us at q → NothingBegins text p → NothingBegins text q → (ts ≡ us) × (p ≡ q)
  one_list [] [] at p q l m a b = (refl, one_gap l.0 m.0 at p q l.1 m.1 a.no_space b.no_space)
  one_list [] (u ∷ us) at p q l m a b =
      let token = m.1.0.token in
      let e = one_gap l.0 m.0.0 at p u.from l.1 m.0.1 a.no_space (token_no_space u.kind u.from u.to token) in
      absurd (a.no_token u.kind u.to (subst (λ k. IsToken text u.kind k u.to) (sym e) token))
  one_list (t ∷ ts) [] at p q l m a b =
      let token = l.1.0.token in
      let e = one_gap m.0 l.0.0 at q t.from m.1 l.0.1 b.no_space (token_no_space t.kind t.from t.to token) in
      absurd (b.no_token t.kind t.to (subst (λ k. IsToken text t.kind k t.to) (sym e) token))
  one_list (t ∷ ts) (u ∷ us) at p q l m a b =
      let e = one_gap l.0.0 m.0.0 at t.from u.from l.0.1 m.0.1 (token_no_space t.kind t.from t.to l.1.0.token) (token_no_space u.kind u.from u.to m.1.0.token) in
      let same = same_token t u l.1 m.1 e in
      let rest = one_list ts us t.to p q l.2 (subst (λ (v : Token). Lexes text us v.to q) (sym same) m.2) a b in
      ((λ i. same i ∷ rest.0 i), rest.1)

  -- ---- a list that grows

  pub lexes_gap : (ts : List Token) (at mid end : ℕ) → Lexes text ts at mid → IsGap text mid end → Lexes text ts at end
  lexes_gap [] at mid end l g = (l.0 ++ g.0, gap_join l.0 g.0 at mid end l.1 g.1)
  lexes_gap (t ∷ ts) at mid end l g = (l.0, l.1, lexes_gap ts t.to mid end l.2 g)

  pub lexes_token : (ts : List Token) (t : Token) (at : ℕ) → Lexes text ts at t.from → Stands text t → Lexes text (ts ++ t ∷ []) at t.to
  lexes_token [] t at l s = (l, s, ([], refl))
  lexes_token (u ∷ ts) t at l s = (l.0, l.1, lexes_token ts t u.to l.2 s)

  -- ---- what is told at the end

  pub all_told : (ts : List Token) → Lexes text ts (start_of text) (length text) → TellsTokens text (Ok (ts ++ end_token text ∷ []))
  unfolding AreTokens
  all_told ts l = (
    (ts, refl, l),
    λ others a. a.1 ∙ ap (λ us. us ++ end_token text ∷ []) (one_list a.0 ts (start_of text) (length text) (length text) a.2 l ends_there ends_there).0,
  )

  pub one_fault : (a b : Spot) → IsLexFault text a → IsLexFault text b → a ≡ b
  one_fault a b f g =
      let same = (one_list f.spanning g.spanning (start_of text) f.place g.place f.lexed g.lexed f.nothing g.nothing).1 in
      f.is ∙ ap (spot_of text) same ∙ sym g.is

  pub fault_told : (ts : List Token) (at : ℕ) (spot : Spot) → Lexes text ts (start_of text) at → at < length text → NoSpace text at → ((k : Kind) (end : ℕ) → IsToken text k at end → ⊥) → spot ≡ spot_of text at → TellsTokens text (Err (Lex spot))
  unfolding AreTokens
  fault_told ts at spot l inside space none is =
      let nothing : NothingBegins text at = record { no_token = none; no_space = space } in (
        record { place = at; spanning = ts; lexed = l; inside = inside; nothing = nothing; is = is },
        λ others a. let e = (one_list a.0 ts (start_of text) (length text) at a.2 l ends_there nothing).1 in absurd (omega arith),
      )

  -- the turns of the loop over the tokens
  pub next_lexed : (ts new : List Token) (k : Kind) (at to next : ℕ) (spot : Spot) → Lexes text ts (start_of text) at → token text at ≡ Some (k, to) → spot ≡ spot_of text at → new ≡ ts ++ record { kind = k; from = at; to = to; spot = spot } ∷ [] → IsGap text to next → Lexes text new (start_of text) next
  next_lexed ts new k at to next spot l read is grown gap =
      let t : Token = record { kind = k; from = at; to = to; spot = spot } in
      subst (λ us. Lexes text us (start_of text) next) (sym grown)
      (lexes_gap (ts ++ t ∷ []) (start_of text) to next (lexes_token ts t (start_of text) l (longest_read k at to read, is)) gap)

  pub end_told : (ts new : List Token) (at : ℕ) (spot : Spot) → Lexes text ts (start_of text) at → length text ≤ at → at ≤ length text → spot ≡ spot_of text at → new ≡ ts ++ record { kind = End; from = at; to = at; spot = spot } ∷ [] → TellsTokens text (Ok new)
  end_told ts new at spot l past_it within is grown =
      let e : at ≡ length text = omega arith in
      let last : record { kind = End; from = at; to = at; spot = spot } ≡ end_token text = λ i. record { kind = End; from = e i; to = e i; spot = (is ∙ ap (spot_of text) e) i } in
      subst (λ us. TellsTokens text (Ok us)) (sym (grown ∙ ap (λ t. ts ++ t ∷ []) last))
      (all_told ts (subst (λ k. Lexes text ts (start_of text) k) e l))
