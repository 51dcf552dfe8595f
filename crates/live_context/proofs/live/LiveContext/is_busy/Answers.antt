use Rattle.std.proofs.Common.{ℕ, ap, subst, sym, ◌≡◌, ◌∙◌, not}
use Rattle.std.specs.Prelude.{nat_eq}
use Rattle.std.specs.List.{list_any}
use Rattle.context_meaning.specs.Contexts.{Context, is_its}
use Rattle.live_context.specs.Counts.{AreCounts, count_its, counts_in, instances_in}
use Rattle.live_context.proofs.Counting.{any_its}
use Rattle.live_context.proofs.live.LiveContext.is_busy.Goals as goal

pub returns-in-Some : goal.returns-in-Some
returns-in-Some c =
    let ls = c.self.inside.listeners.items in
    let counted = subst (λ xs. (count : ℕ → ℕ) → AreCounts count (instances_in xs) (counts_in xs) → c.in-Some.count ≡ count c.args.instance) c.as_slice.ensures.value c.in-Some.ensures in
    ap (λ n. not (nat_eq n 0)) (counted (count_its ls) c.self.invariant.counted) ∙ sym (any_its c.args.instance ls) ∙ ap (λ (x : Context). list_any (is_its c.args.instance) x.listeners) c.self.view_is
