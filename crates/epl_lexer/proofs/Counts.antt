-- A list of tokens has one end, and no more tokens than bytes besides.
use Rattle.std.proofs.Common.{◌≡◌, ℕ, ◌+◌, ◌<◌, ◌≤◌, List, [], ◌∷◌, length, refl, ap, ◌∙◌, arith, ⊎_elim, inl, inr, length-append}
use Rattle.std.specs.List.{All}
use Rattle.std.proofs.lemmas.List.Elements.{All-nil, All-cons}
use Rattle.grammar_forms.specs.Rule.{Many}
use Rattle.epl_lexer.specs.declared.token.Kind.{Kind}
use Rattle.epl_lexer.specs.declared.token.Kind.TheVariants.{Name, Keyword, Integer, Decimal, Quoted, Sign, End}
use Rattle.epl_lexer.specs.declared.token.Token.{Token}
use Rattle.epl_lexer.specs.Spelling.{IsToken, IsSpace}
use Rattle.epl_lexer.specs.Tokens.{Lexes, AreTokens, EndsOnce, end_token, start_of}
use Rattle.epl_lexer.proofs.Strings.{good_quoted}
use Rattle.epl_lexer.proofs.Signs.{sign_there}

module _ (text : List ℕ) where
  token_moves : (k : Kind) (at end : ℕ) → IsToken text k at end → at < end
  token_moves (Name t) at end i = i.1.0.1.some
  token_moves (Keyword n) at end i = i.1.0.1.some
  token_moves (Integer t) at end i = i.1.0.some
  token_moves (Decimal t) at end i =
      let f = i.1.0 in
      let a = f.1.some in
      let b = f.2.1.1 in
      let c = f.2.2.some in omega arith
  token_moves (Quoted v) at end i = ((good_quoted text).moves v at end i.1).0
  token_moves (Sign n) at end i =
      ⊎_elim (λ e. omega (arith, e)) (λ e. omega (arith, e)) (sign_there text at end n i.1.0 i.1.1).size
  token_moves End at end i = absurd i.1

  space_moves : (at end : ℕ) → IsSpace text tt at end → at ≤ end
  space_moves at end (inl h) = let e = h.1 in omega arith
  space_moves at end (inr (inl h)) = let b = h.behind in omega arith
  space_moves at end (inr (inr h)) = let b = h.behind in let e = h.ends in omega arith

  gap_moves : (xs : List (Unit {0})) (at end : ℕ) → Many (IsSpace text) xs at end → at ≤ end
  gap_moves [] at end m = omega arith
  gap_moves (x ∷ xs) at end m =
      let a = space_moves at m.0 m.1 in let b = gap_moves xs m.0 end m.2 in omega arith

  few : (ts : List Token) (at end : ℕ) → Lexes text ts at end → at + length ts ≤ end
  few [] at end l = let g = gap_moves l.0 at end l.1 in omega arith
  few (t ∷ ts) at end l =
      let g = gap_moves l.0.0 at t.from l.0.1 in
      let m = token_moves t.kind t.from t.to l.1.0.token in
      let rest = few ts t.to end l.2 in omega arith

  pub are_few : (tokens : List Token) → AreTokens text tokens → length tokens ≤ length text + 1
  unfolding AreTokens
  are_few tokens a =
      let n = few a.0 (start_of text) (length text) a.2 in
      let l = ap length a.1 ∙ length-append a.0 (end_token text ∷ []) in omega arith

  no_end : (ts : List Token) (at end : ℕ) → Lexes text ts at end → All (λ t. t.kind ≡ End → ⊥) ts
  no_end [] at end l = All-nil (λ t. t.kind ≡ End → ⊥)
  no_end (t ∷ ts) at end l =
      All-cons (λ t. t.kind ≡ End → ⊥) t ts (isnt t.kind t.from t.to l.1.0.token) (no_end ts t.to end l.2) where
        isnt : (k : Kind) (at end : ℕ) → IsToken text k at end → k ≡ End → ⊥
        isnt (Name t) at end i e = cc
        isnt (Keyword n) at end i e = cc
        isnt (Integer t) at end i e = cc
        isnt (Decimal t) at end i e = cc
        isnt (Quoted v) at end i e = cc
        isnt (Sign n) at end i e = cc
        isnt End at end i e = absurd i.1

  pub end_once : (tokens : List Token) → AreTokens text tokens → EndsOnce tokens
  unfolding AreTokens
  end_once tokens a =
      (a.0, end_token text, a.1, refl, no_end a.0 (start_of text) (length text) a.2)
