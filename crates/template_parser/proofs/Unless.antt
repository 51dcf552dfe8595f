-- A reader of one form where no tree of another begins.
use Rattle.std.proofs.Common.{◌≡◌, ℕ, List, Option, Some, None, refl, ap, ◌∙◌}
use Rattle.grammar_forms.specs.Rule.{Row}
use Rattle.grammar_forms.specs.Reader.{Reader}
use Rattle.grammar_forms.specs.Good.{Good}
use Rattle.template_parser.specs.Rules.{Unless, unless}

unless_some : {A B : Type 0} (o : Option (B × ℕ)) (o' : Option (A × ℕ)) (x : A × ℕ) → unless o o' ≡ Some x → (o ≡ None) × (o' ≡ Some x)
unless_some None o' x h = (refl, h)
unless_some (Some y) o' x h = cc

pub good_unless : {A B : Type 0} {row : Row} {Q : B → ℕ → ℕ → Type 0} {P : A → ℕ → ℕ → Type 0} {q : Reader B} {r : Reader A} {s e s' e' : List ℕ} → Good row Q q s' e' → Good row P r s e → Good row (Unless Q P) (λ at. unless (q at) (r at)) s e
good_unless {A} {B} {row} {Q} {P} {q} {r} {s} {e} {s'} {e'} h g = record {
  sound = λ at x eq. let t = unless_some (q at) (r at) x eq in (λ b stop k. none_stands at t.0 b stop k, g.sound at x t.1);
  moves = λ a at end i. g.moves a at end i.1;
  begins = λ a at end i. g.begins a at end i.1;
  covers = λ a at p i.
      let c = g.covers a at p i.1 in
      record {
        tree = c.tree;
        end = c.end;
        found = ap (λ o. unless o (r at)) (none_read at i.0 (q at) refl) ∙ c.found;
        far = c.far;
        stops = c.stops;
        same = c.same;
      };
} where
  none_stands : (at : ℕ) → q at ≡ None → (b : B) (stop : ℕ) → Q b at stop → ⊥
  none_stands at eq b stop k = let c = h.covers b at stop k in let f = c.found in cc

  none_read : (at : ℕ) → ((b : B) (stop : ℕ) → Q b at stop → ⊥) → (o : Option (B × ℕ)) → q at ≡ o → q at ≡ None
  none_read at nowhere None eq = eq
  none_read at nowhere (Some y) eq = absurd (nowhere y.0 y.1 (h.sound at y eq))
