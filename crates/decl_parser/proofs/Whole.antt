-- The declarations of a program file are read just as they are written.
use Rattle.std.proofs.Common.{◌≡◌, ℕ, zero, suc, ◌+◌, ◌<◌, ◌≤◌, Bool, true, false, cond, List, [], ◌∷◌, ◌++◌, length, Option, Some, None, refl, sym, ap, ◌∙◌, subst, arith, append_assoc, append-nil}
use Rattle.std.proofs.lemmas.Option.{same_Some, cond_some}
use Rattle.grammar_forms.specs.Rule.{Row, Many, contains, has}
use Rattle.grammar_forms.specs.Reader.{Reader, more, many}
use Rattle.grammar_forms.specs.Good.{Good}
use Rattle.grammar_forms.proofs.Sets.{lacks}
use Rattle.epl_lexer.specs.declared.token.Token.{Token}
use Rattle.epl_lexer.specs.declared.token.Kind.{Kind}
use Rattle.epl_lexer.specs.declared.token.Kind.TheVariants as kind
use Rattle.epl_tree.specs.declared.unit.Declaration.{Declaration}
use Rattle.epl_tree.specs.declared.unit.Unit.{Unit as ProgramFile}
use Rattle.primary_parser.specs.Tokens.{row_of, kind_at, class_of}
use Rattle.decl_parser.specs.Units.{IsDeclaration, IsEnd, IsUnit}
use Rattle.decl_parser.specs.Declaring.{declaration_at, is_end_kind, is_end, unit_read}
use Rattle.decl_parser.proofs.UnitLaws.{declaration_starts, good_declaration}

-- what a run of turns gives: more at the end, of the form, up to a place
record Run {A : Type 0} (Q : A → ℕ → ℕ → Type 0) (q : Reader A) (n at : ℕ) (found : List A) : Type 0 where
  tail : List A
  end : ℕ
  is : many q n at found ≡ (found ++ tail, end)
  form : Many Q tail at end

run : {A : Type 0} {row : Row} {Q : A → ℕ → ℕ → Type 0} {q : Reader A} {s : List ℕ} → Good row Q q s [] → (n at : ℕ) (found : List A) → Run Q q n at found
unfolding many
run g zero at found = record { tail = []; end = at; is = ap (λ l. (l, at)) (sym (append-nil found)); form = refl }
run {A} {row} {Q} {q} g (suc n) at found = by_turn (λ i l. run g n i l) (q at) refl where
  by_turn : ((i : ℕ) (l : List A) → Run Q q n i l) → (o : Option (A × ℕ)) → q at ≡ o → Run Q q (suc n) at found
  by_turn go None eq = record {
    tail = [];
    end = at;
    is = ap (λ o. more o at found (many q n)) eq ∙ ap (λ l. (l, at)) (sym (append-nil found));
    form = refl;
  }
  by_turn go (Some x) eq =
      let rest = go x.1 (found ++ x.0 ∷ []) in
      record {
        tail = x.0 ∷ rest.tail;
        end = rest.end;
        is = ap (λ o. more o at found (many q n)) eq ∙ (rest.is ∙ ap (λ l. (l, rest.end)) (append_assoc found (x.0 ∷ []) rest.tail));
        form = (x.1, g.sound at x eq, rest.form);
      }

-- items that span up to a place at which none begins are what a run gives
runs : {A : Type 0} {row : Row} {Q : A → ℕ → ℕ → Type 0} {q : Reader A} {s : List ℕ} → Good row Q q s [] → (xs : List A) (n at p : ℕ) (found : List A) → Many Q xs at p → q p ≡ None → row.len ≤ n + at → many q n at found ≡ (found ++ xs, p)
unfolding many
runs g [] zero at p found h none enough = ap (λ l. (l, at)) (sym (append-nil found)) ∙ ap (λ i. (found ++ [], i)) (sym h)
runs {q = q} g [] (suc n) at p found h none enough =
    ap (λ o. more o at found (many q n)) (ap q (sym h) ∙ none) ∙ (ap (λ l. (l, at)) (sym (append-nil found)) ∙ ap (λ i. (found ++ [], i)) (sym h))
runs g (x ∷ xs) zero at p found h none enough = let m = g.moves x at h.0 h.1 in absurd (omega arith)
runs {row = row} {q = q} g (x ∷ xs) (suc n) at p found h none enough =
    let m = g.moves x at h.0 h.1 in
    let c = g.covers x at h.0 h.1 in
    let stop = c.stops (lacks row h.0) in
    let rest = runs g xs n h.0 p (found ++ x ∷ []) h.2 none (omega arith) in
    ap (λ o. more o at found (many q n)) c.found
    ∙ (ap (λ i. many q n i (found ++ c.tree ∷ [])) stop
    ∙ (ap (λ t. many q n h.0 (found ++ t ∷ [])) (c.same stop)
    ∙ (rest ∙ ap (λ l. (l, p)) (append_assoc found (x ∷ []) xs))))

end_true : (k : Kind) → is_end_kind k ≡ true → k ≡ kind.End
end_true kind.End h = refl
end_true (kind.Name t) h = cc
end_true (kind.Integer t) h = cc
end_true (kind.Decimal t) h = cc
end_true (kind.Quoted t) h = cc
end_true (kind.Keyword n) h = cc
end_true (kind.Sign n) h = cc

module _ (tokens : List Token) where
  -- nothing of a class begins at the end
  pub none_at_end : {A : Type 0} {Q : A → ℕ → ℕ → Type 0} {q : Reader A} {s : List ℕ} → Good (row_of tokens) Q q s [] → contains 14 s ≡ false → (at : ℕ) → IsEnd tokens at → q at ≡ None
  unfolding has
  none_at_end {q = q} {s = s} g a at e = by_turn (q at) refl where
    by_turn : (o : Option (_ × ℕ)) → q at ≡ o → q at ≡ None
    by_turn None eq = eq
    by_turn (Some x) eq =
        let is = g.begins x.0 at x.1 (g.sound at x eq) in
        let isnt = ap (λ k. contains (class_of k) s) e ∙ a in cc

  -- a program file is what is read
  pub is_read : (u : ProgramFile) → IsUnit tokens u → unit_read tokens ≡ Some u
  unfolding IsUnit unit_read
  is_read u h =
      let all = runs (good_declaration tokens) u.declarations (length tokens) 0 h.0 [] h.1 (none_at_end (good_declaration tokens) refl h.0 h.2) (omega arith) in
      ap (λ (x : List Declaration × ℕ). cond (is_end tokens x.1) (Some record { declarations = x.0 }) None) all
      ∙ ap (λ k. cond (is_end_kind k) (Some u) None) h.2

  sound_by : (all : List Declaration × ℕ) (u : ProgramFile) → Many (IsDeclaration tokens) all.0 0 all.1 → cond (is_end tokens all.1) (Some record { declarations = all.0 }) None ≡ Some u → IsUnit tokens u
  unfolding IsUnit
  sound_by all u h e =
      let b = cond_some (is_end tokens all.1) (record { declarations = all.0 }) u e in
      subst (λ (v : ProgramFile). (end : ℕ) × Many (IsDeclaration tokens) v.declarations 0 end × IsEnd tokens end) b.1 (all.1, h, end_true (kind_at tokens all.1) b.0)

  -- what is read is a program file
  pub read_is : (u : ProgramFile) → unit_read tokens ≡ Some u → IsUnit tokens u
  unfolding unit_read
  read_is u e =
      let t = run (good_declaration tokens) (length tokens) 0 [] in
      sound_by (many (declaration_at tokens) (length tokens) 0 []) u
      (subst (λ (x : List Declaration × ℕ). Many (IsDeclaration tokens) x.0 0 x.1) (sym t.is) t.form) e

  -- where something is read it is the only program file
  pub only : (u v : ProgramFile) → unit_read tokens ≡ Some u → IsUnit tokens v → v ≡ u
  only u v e h = same_Some _ _ (sym (is_read v h) ∙ e)

  -- where nothing is read there is no program file
  pub nowhere : (v : ProgramFile) → unit_read tokens ≡ None → IsUnit tokens v → ⊥
  nowhere v e h = let r = is_read v h in cc
