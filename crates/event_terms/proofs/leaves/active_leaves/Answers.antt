use Rattle.std.proofs.Common.{rules, ◌++◌, sym, ap, ◌∙◌, subst}
use Rattle.std.specs.Prelude.{IsPermutation}
use Rattle.std.proofs.lemmas.List.Sorted.{IsNonDecreasingBy-from_sort_by_key}
use Rattle.term_meaning.specs.Active.{Active, leaves_in}
use Rattle.event_terms.proofs.leaves.active_leaves.Goals as goal

pub returns : goal.returns
returns c =
    subst (Active c.args.progress.now) (sym c.from_vec.ensures)
    (record {
      all =
          subst (λ ls. IsPermutation ls c.sort_by_key.new.self.items)
          (c.into_vec-leaves.ensures ∙ c.in_ok-with_leaves.ensures ∙ ap (λ ls. ls ++ leaves_in c.args.progress.now) c.new.ensures)
          c.sort_by_key.ensures.permutation;
      in_order = IsNonDecreasingBy-from_sort_by_key (λ leaf. leaf.number) _ c.in_ok-sort_by_key.ensures.sorted (λ a r q k. search rules);
    })
