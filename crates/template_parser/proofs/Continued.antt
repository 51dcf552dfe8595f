-- Reading on behind what was found.
use Rattle.std.proofs.Common.{◌≡◌, ℕ, zero, suc, List, [], ◌∷◌, ◌++◌, Option, Some, None, ap, sym, ◌∙◌, ◌-◌}
use Rattle.std.proofs.lemmas.List.{append_assoc, append-nil}
use Rattle.std.proofs.lemmas.Option.{none-some}
use Rattle.std.specs.Prelude.{unwrap_or}
use Rattle.grammar_forms.specs.Reader.{Reader, many, more, made, and_many}

-- what was found, and behind it what is read from there
abbrev pub onto : {A : Type 0} → List A → List A × ℕ → List A × ℕ
onto found read = (found ++ read.0, read.1)

abbrev pub Continues : {A : Type 0} → (ℕ → List A → List A × ℕ) → Type 0
Continues {A = A} go = (at : ℕ) (found : List A) → go at found ≡ onto found (go at [])

more_from : {A : Type 0} (go : ℕ → List A → List A × ℕ) → Continues go → (o : Option (A × ℕ)) (at : ℕ) (found : List A) → more o at found go ≡ onto found (more o at [] go)
more_from go ih None at found = ap (λ xs. (xs, at)) (sym (append-nil found))
more_from go ih (Some x) at found =
    ih x.1 (found ++ x.0 ∷ [])
    ∙ ap (λ xs. (xs, (go x.1 []).1)) (append_assoc found (x.0 ∷ []) (go x.1 []).0)
    ∙ ap (onto found) (sym (ih x.1 (x.0 ∷ [])))

pub many_from : {A : Type 0} (r : Reader A) (n at : ℕ) (found : List A) → many r n at found ≡ onto found (many r n at [])
unfolding many
many_from r zero at found = ap (λ xs. (xs, at)) (sym (append-nil found))
many_from r (suc n) at found = more_from (many r n) (many_from r n) (r at) at found

-- one, and those behind it
pub listed_from : {A : Type 0} (s : Reader A) (len : ℕ) (o : Option (A × ℕ)) (first all : List A) (at end : ℕ) →
    Some (first, at) ≡ made (λ x. x ∷ []) o → (all, end) ≡ many s (len - at) at first →
    Some (all, end) ≡ made (λ x. x.0 ∷ x.1) (and_many len o s)
listed_from s len None first all at end h k = absurd (none-some _ (sym h))
listed_from s len (Some x) first all at end h k =
    let e : first ≡ x.0 ∷ [] = ap (λ p. p.0) (ap (λ o. unwrap_or o (first, at)) h) in
    let f : at ≡ x.1 = ap (λ p. p.1) (ap (λ o. unwrap_or o (first, at)) h) in
    ap Some (k ∙ ap (λ n. many s (len - n) n first) f ∙ ap (many s (len - x.1) x.1) e ∙ many_from s (len - x.1) x.1 (x.0 ∷ []))
