-- An event expression begins as its pattern says, with nothing kept.
use Rattle.std.proofs.Common.{◌+◌}
use Rattle.std.proofs.lemmas.Bool.{eq-eqb}
use Rattle.term_meaning.specs.Operands.{time_after}
use Rattle.term_meaning.specs.Patterns as pattern
use Rattle.term_meaning.specs.Patterns.{first_of, second_of}
use Rattle.term_meaning.specs.Start.{leaf_of, start_of}
use Rattle.term_shapes.proofs.Common.{ℕ, List, None, [], refl, All-nil, EventShape, Local, Binding, Pattern, Setting, CompletionFits, ProgressFits}
use Rattle.term_shapes.proofs.Fitting.{sides_in, template_fits, wait_fits, all_fits, within_fits, followed_fits, and_fits, and_not_fits, not_and_fits, or_fits, xor_fits}

module _ (types : List EventShape) (bound : List Local) (setting : Setting) (seen : List Binding) where
  -- an expression that begins, with whatever is bound
  pub start_fits : (p : Pattern) (next : ℕ) → ProgressFits types bound p (start_of setting p seen next).progress
  unfolding start_of first_of second_of
  start_fits (pattern.Template t) next = template_fits types bound (pattern.Template t) (leaf_of setting t seen next) (eq-eqb t.event t.event refl)
  start_fits (pattern.Wait d) next = wait_fits types bound (pattern.Wait d) next (time_after setting d) refl
  start_fits (pattern.All x) next = all_fits types bound (pattern.All x) (start_of setting x seen next).progress refl (start_fits x next)
  start_fits (pattern.Followed x y) next = followed_fits types bound (pattern.Followed x y) (start_of setting x seen next).progress [] refl (start_fits x next) (record { shaped = refl; kept = All-nil (CompletionFits types bound) })
  start_fits (pattern.And x y) next =
      let a = start_of setting x seen next in
      and_fits types bound (pattern.And x y) _ None None refl (sides_in types bound (pattern.And x y) a.progress (start_of setting y seen a.next).progress (start_fits x next) (start_fits y a.next)) (All-nil (CompletionFits types bound)) (All-nil (CompletionFits types bound))
  start_fits (pattern.AndNot x y) next =
      let a = start_of setting x seen next in
      and_not_fits types bound (pattern.AndNot x y) _ refl (sides_in types bound (pattern.AndNot x y) a.progress (start_of setting y seen a.next).progress (start_fits x next) (start_fits y a.next))
  start_fits (pattern.NotAnd x y) next =
      let a = start_of setting x seen next in
      not_and_fits types bound (pattern.NotAnd x y) _ refl (sides_in types bound (pattern.NotAnd x y) a.progress (start_of setting y seen a.next).progress (start_fits x next) (start_fits y a.next))
  start_fits (pattern.Or x y) next =
      let a = start_of setting x seen next in
      or_fits types bound (pattern.Or x y) _ refl (sides_in types bound (pattern.Or x y) a.progress (start_of setting y seen a.next).progress (start_fits x next) (start_fits y a.next))
  start_fits (pattern.Xor x y) next =
      let a = start_of setting x seen next in
      xor_fits types bound (pattern.Xor x y) _ refl (sides_in types bound (pattern.Xor x y) a.progress (start_of setting y seen a.next).progress (start_fits x next) (start_fits y a.next))
  start_fits (pattern.Within x d) next = within_fits types bound (pattern.Within x d) next (time_after setting d) (start_of setting x seen (next + 1)).progress refl (start_fits x (next + 1))
