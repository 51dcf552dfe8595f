use Rattle.std.proofs.Common.{◌≡◌, ◌∙◌, ◌++◌, ◌∷◌, [], List, ap, ◌+◌, suc, arith, sym}
use Rattle.actor_theory.specs.declared.entry.Entry.{Entry}
use Rattle.actor_theory.specs.Machine.{empty_queues}
use Rattle.record_book.specs.declared.cargo.Cargo.{Cargo}
use Rattle.entry_queues.proofs.Lemmas.{empty-more}
use Rattle.entry_queues.proofs.queued.empty_queues.Goals as goal

pub actors-preserved : goal.actors-preserved
actors-preserved c =
    let more : c.actors._actor + 1 ≡ suc c.actors._actor = omega arith in
    let pushed : c.push.new.self.items ≡ c.actors.queues.items ++ [] ∷ [] = c.in_ok-push.ensures.items ∙ ap (λ q. c.actors.queues.items ++ q ∷ []) c.new.ensures in
    pushed ∙ ap (λ (qs : List (List (Entry Cargo))). qs ++ [] ∷ []) c.actors.invariant ∙ empty-more c.actors._actor ∙ ap (empty_queues {C = Cargo}) (sym more)
