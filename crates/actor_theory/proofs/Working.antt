-- What the work of all parts keeps, whatever its interleaving.
use Rattle.std.proofs.Common.{◌∷◌, ◌++◌}
use Rattle.actor_theory.proofs.Common.{ℕ, List, [], sym, ◌∙◌, ap, append_assoc, append-nil, Entry, Language, Moment, first, next, after_all, naive, replies, sends, by, World, IsUnspentAlong, BeginsWithBoot}
use Rattle.actor_theory.specs.Holds.{Holds, Works}
use Rattle.actor_theory.proofs.Lists.{by-append}
use Rattle.actor_theory.proofs.Sending.{sends-append}
use Rattle.actor_theory.proofs.Beside.{begins-more}

unspent-append : {S C : Type 0} (L : Language S C) (m : Moment S) (xs ys : List (Entry C)) → IsUnspentAlong L m xs → IsUnspentAlong L (after_all L m xs) ys → IsUnspentAlong L m (xs ++ ys)
unspent-append L m [] ys a b = b
unspent-append L m (x ∷ xs) ys a b = (a.0, unspent-append L (next L m x) xs ys a.1 b)

pub works-holds : {S C : Type 0} (L : Language S C) (items : List C) (w v : World C) (outbox outbox' : ℕ → ℕ → List (Entry C)) (taken : ℕ → List (Entry C)) (posted : ℕ → ℕ → List (Entry C))
    → Works L w v outbox outbox' taken posted → Holds L items w outbox → Holds L items v outbox'
works-holds L items w v outbox outbox' taken posted p h = record {
  each = λ s d.
      ap (λ l. by s (l ++ v.queue d) ++ outbox' s d) (p.logs d)
      ∙ ap (λ l. by s l ++ outbox' s d) (append_assoc (w.log d) (taken d) (v.queue d))
      ∙ ap (λ l. l ++ outbox' s d) (by-append s (w.log d) (taken d ++ v.queue d) ∙ ap (λ l. by s (w.log d) ++ l) (p.mail s d) ∙ sym (append_assoc (by s (w.log d)) (by s (w.queue d)) (posted s d)) ∙ ap (λ l. l ++ posted s d) (sym (by-append s (w.log d) (w.queue d))))
      ∙ append_assoc (by s (w.log d ++ w.queue d)) (posted s d) (outbox' s d)
      ∙ ap (λ l. by s (w.log d ++ w.queue d) ++ l) (sym (p.posts s d))
      ∙ sym (append_assoc (by s (w.log d ++ w.queue d)) (outbox s d) (replies L s d (naive L s (w.log s)) (taken s)))
      ∙ ap (λ l. l ++ replies L s d (naive L s (w.log s)) (taken s)) (h.each s d)
      ∙ sym (sends-append L items s d (w.log s) (taken s))
      ∙ ap (sends L items s d) (sym (p.logs s));
  unspent = λ d. rw (p.logs d) (unspent-append L (first L d) (w.log d) (taken d) (h.unspent d) (p.unspent d));
  others = λ d lt. p.logs d ∙ ap (λ l. w.log d ++ l) (p.others d lt) ∙ append-nil (w.log d) ∙ h.others d lt;
}

pub works-begins : {S C : Type 0} (L : Language S C) (w v : World C) (outbox outbox' : ℕ → ℕ → List (Entry C)) (taken : ℕ → List (Entry C)) (posted : ℕ → ℕ → List (Entry C))
    → Works L w v outbox outbox' taken posted → BeginsWithBoot L w → BeginsWithBoot L v
works-begins L w v outbox outbox' taken posted p h = begins-more L w v (λ d. (taken d, p.logs d)) h
