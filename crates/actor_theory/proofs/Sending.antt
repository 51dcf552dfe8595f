-- What is sent along a log.
use Rattle.std.proofs.Common.{◌≡◌, ◌∷◌, ◌++◌}
use Rattle.actor_theory.proofs.Common.{ℕ, List, [], refl, sym, ◌∙◌, ap, append_assoc, append-nil, Entry, Language, Moment, next, first, after_all, naive, mail, reply, replies, sends}
use Rattle.actor_theory.specs.Language.{before}

pub after_all-append : {S C : Type 0} (L : Language S C) (m : Moment S) (xs ys : List (Entry C)) → after_all L m (xs ++ ys) ≡ after_all L (after_all L m xs) ys
after_all-append L m [] ys = refl
after_all-append L m (x ∷ xs) ys = after_all-append L (next L m x) xs ys

pub replies-append : {S C : Type 0} (L : Language S C) (s k : ℕ) (m : Moment S) (xs ys : List (Entry C))
    → replies L s k m (xs ++ ys) ≡ replies L s k m xs ++ replies L s k (after_all L m xs) ys
replies-append L s k m [] ys = refl
replies-append L s k m (x ∷ xs) ys =
    ap (λ r. reply L s k m x ++ r) (replies-append L s k (next L m x) xs ys) ∙ sym (append_assoc (reply L s k m x) (replies L s k (next L m x) xs) (replies L s k (after_all L (next L m x) xs) ys))

pub sends-append : {S C : Type 0} (L : Language S C) (items : List C) (s k : ℕ) (xs ys : List (Entry C))
    → sends L items s k (xs ++ ys) ≡ sends L items s k xs ++ replies L s k (naive L s xs) ys
sends-append L items s k xs ys =
    ap (λ r. mail s 0 k (before L items s) ++ r) (replies-append L s k (first L s) xs ys)
    ∙ sym (append_assoc (mail s 0 k (before L items s)) (replies L s k (first L s) xs) (replies L s k (naive L s xs) ys))

pub sends-one : {S C : Type 0} (L : Language S C) (items : List C) (s k : ℕ) (log : List (Entry C)) (e : Entry C)
    → sends L items s k (log ++ e ∷ []) ≡ sends L items s k log ++ reply L s k (naive L s log) e
sends-one L items s k log e = sends-append L items s k log (e ∷ []) ∙ ap (λ r. sends L items s k log ++ r) (append-nil (reply L s k (naive L s log) e))
