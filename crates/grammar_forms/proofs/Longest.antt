-- A good reader reads the longest trees, and only them.
use Rattle.std.proofs.Common.{◌≤◌}
use Rattle.grammar_forms.proofs.Common.{ℕ, List, sym, ap, ◌∙◌, subst, same_Some, Row, Reader, Good}
use Rattle.grammar_forms.specs.Good.{ReadsLongest}

pub reads_longest : {A : Type 0} {row : Row} {Is : A → ℕ → ℕ → Type 0} {read : Reader A} {s e : List ℕ} → Good row Is read s e → ReadsLongest Is read
reads_longest {A} {row} {Is} {read} {s} {e} g = record {
  tree = g.sound;
  longest = λ at x h a end i.
      let c = g.covers a at end i in
      subst (λ n. end ≤ n) (ap (λ y. y.1) (same_Some _ _ (sym c.found ∙ h))) c.far;
  only = λ at x h a i.
      let c = g.covers a at x.1 i in
      let same = same_Some _ _ (sym c.found ∙ h) in
      sym (c.same (ap (λ y. y.1) same)) ∙ ap (λ y. y.0) same;
  nowhere = λ at h a end i. let c = g.covers a at end i in let f = c.found in cc;
}
