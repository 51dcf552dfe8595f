-- The machine's rounds and picks, and the record at their end.
use Rattle.std.proofs.Common.{◌≡◌, ◌+◌, ◌<◌, ◌≤◌, ◌∷◌, ◌||◌, ◌⊎◌}
use Rattle.actor_theory.proofs.Common.{ℕ, List, [], Bool, true, false, Option, sym, ◌∙◌, ap, subst, inr, map, length, drop, Entry, Language, World, step, picked, follow, turn_of, IsFinished, BeginsWithBoot, IsBoot, IsMeasure, Rounding, Slots, Reader, IsFaithful, IsScheduled, Cell, ReaderCell, world_of, Stand, Stepped, fresh_cells, fresh_reader, loaded_queues, kept_of, without_items, IsJoinedLog}
use Rattle.actor_theory.specs.Holds.{Holds}
use Rattle.actor_theory.specs.Joined.{joined}
use Rattle.actor_theory.proofs.Joining.{joined-quiet}
use Rattle.actor_theory.proofs.Beside.{boot-holds}
use Rattle.actor_theory.proofs.Recording.{finished-kept}
use Rattle.actor_theory.proofs.Rounding.{rounding-more}
use Rattle.actor_theory.proofs.Beginning.{fresh-world, given-world}
use Rattle.actor_theory.proofs.Ending.{kept-of, no-item_quiet}
use Rattle.actor_theory.proofs.Measuring.{machine-log}

-- one more turn of a round
pub machine-rounding_more : {S R C I : Type 0} (contexts : ℕ) (A : Slots S C) (B : Reader R C I) (weight : (S ⊎ R) → ℕ) (cost : ℕ → Entry (C ⊎ I) → ℕ) → IsMeasure (joined contexts A B) (IsJoinedLog contexts) weight cost → (takes : Bool) (began : World (C ⊎ I))
    (cells : List (Cell S C)) (reader : ReaderCell R C I) (queued : List (List (Entry C))) (cells' : List (Cell S C)) (reader' : ReaderCell R C I) (queued' : List (List (Entry C))) (d : ℕ) (handled more : Bool)
    → Rounding (joined contexts A B) weight cost takes began (world_of contexts cells reader queued) d handled → d ≤ contexts
    → Stepped contexts A B cells reader queued (turn_of (joined contexts A B) takes (world_of contexts cells reader queued) d) cells' reader' queued' more
    → Rounding (joined contexts A B) weight cost takes began (world_of contexts cells' reader' queued') (d + 1) (handled || more)
machine-rounding_more contexts A B weight cost measure takes began cells reader queued cells' reader' queued' d handled more h le stepped =
    rounding-more (joined contexts A B) weight cost (IsJoinedLog contexts) measure takes began (world_of contexts cells reader queued) (world_of contexts cells' reader' queued') d handled more h le
    (machine-log contexts cells' reader' queued' d) stepped.world stepped.found_is

-- one more pick: what is still to be followed begins with it
pub follow-more : {S C : Type 0} (L : Language S C) (now then to : World C) (picks : List (ℕ × Option ℕ)) (i : ℕ) (pick : ℕ × Option ℕ) → i < length picks → drop i picks ≡ pick ∷ drop (i + 1) picks
    → follow L now (drop i picks) ≡ to → then ≡ step L now (picked L now pick) → follow L then (drop (i + 1) picks) ≡ to
follow-more {S} {C} L now then to picks i pick lt dropped h is = ap (λ w. follow L w (drop (i + 1) picks)) is ∙ sym (ap (follow L now) dropped) ∙ h

-- boot's rounds, from the loads alone
pub machine-boot : {S R C I : Type 0} (contexts : ℕ) (A : Slots S C) (B : Reader R C I) (cells : List (Cell S C)) (reader : ReaderCell R C I) (queued : List (List (Entry C)))
    → IsFinished (joined contexts A B) false (world_of contexts (fresh_cells A contexts) (fresh_reader B []) (loaded_queues contexts B)) (world_of contexts cells (without_items reader) queued)
    → IsBoot (joined contexts A B) (world_of contexts cells (without_items reader) queued)
machine-boot {S} {R} {C} {I} contexts A B cells reader queued h = let P : World (C ⊎ I) → Type 0 = λ w. IsFinished (joined contexts A B) false w (world_of contexts cells (without_items reader) queued) in subst P (fresh-world contexts A B) h

-- after boot, with the items to come, all that was sent is in a log or a queue, and the logs begin with boot
pub machine-holds : {S R C I : Type 0} (contexts : ℕ) (A : Slots S C) (B : Reader R C I) (cells : List (Cell S C)) (reader : ReaderCell R C I) (queued : List (List (Entry C)))
    → IsBoot (joined contexts A B) (world_of contexts cells (without_items reader) queued)
    → Holds (joined contexts A B) (map inr reader.rest) (world_of contexts cells reader queued) (λ s d. []) × BeginsWithBoot (joined contexts A B) (world_of contexts cells reader queued)
machine-holds {S} {R} {C} {I} contexts A B cells reader queued boot =
    let L : Language (S ⊎ R) (C ⊎ I) = joined contexts A B in
    let P : World (C ⊎ I) → Type 0 = λ w. Holds L (map inr reader.rest) w (λ s d. []) × BeginsWithBoot L w in
    subst P (sym (given-world contexts A B cells reader queued)) (boot-holds L (map inr reader.rest) (world_of contexts cells (without_items reader) queued) (joined-quiet contexts A B) boot)

-- boot, the picks, and rounds until one handles nothing: the machine's record is the scheduled one
pub machine-scheduled : {S R X C I : Type 0} (contexts : ℕ) (A : Slots S C) (B : Reader R C I) (shows : S → X) (picks : List (ℕ × Option ℕ)) (cells : List (Cell S C)) (reader : ReaderCell R C I) (queued : List (List (Entry C)))
    (picked_world : World (C ⊎ I)) (cells' : List (Cell S C)) (reader' : ReaderCell R C I) (queued' : List (List (Entry C))) → IsBoot (joined contexts A B) (world_of contexts cells (without_items reader) queued)
    → picked_world ≡ follow (joined contexts A B) (world_of contexts cells reader queued) picks → IsFinished (joined contexts A B) true picked_world (world_of contexts cells' reader' queued') → Stand contexts A B cells' reader' queued'
    → IsScheduled contexts A B shows reader.rest picks (kept_of contexts A shows cells' reader' queued')
machine-scheduled {S} {R} {X} {C} {I} contexts A B shows picks cells reader queued picked_world cells' reader' queued' boot followed finished stand =
    let L : Language (S ⊎ R) (C ⊎ I) = joined contexts A B in
    let P : World (C ⊎ I) → Type 0 = λ w. IsFinished L true w (world_of contexts cells' reader' queued') in
    record {
      world = world_of contexts cells' reader' queued';
      scheduled = record {
        boot = world_of contexts cells (without_items reader) queued;
        booted = boot;
        finished = subst P (followed ∙ ap (λ w. follow L w picks) (given-world contexts A B cells reader queued)) finished;
      };
      is_kept = kept-of contexts A B shows cells' reader' queued' stand (no-item_quiet contexts A B cells' reader' queued' stand finished.quiet);
    }

-- from whatever holds with all posted, rounds until one handles nothing give a faithful record
pub machine-finished : {S R X C I : Type 0} (contexts : ℕ) (A : Slots S C) (B : Reader R C I) (shows : S → X) (items : List I) (from : World (C ⊎ I)) (outbox : ℕ → ℕ → List (Entry (C ⊎ I))) (cells : List (Cell S C))
    (reader : ReaderCell R C I) (queued : List (List (Entry C))) → Holds (joined contexts A B) (map inr items) from outbox → ((s d : ℕ) → outbox s d ≡ []) → BeginsWithBoot (joined contexts A B) from
    → IsFinished (joined contexts A B) true from (world_of contexts cells reader queued) → Stand contexts A B cells reader queued → IsFaithful contexts A B shows items (kept_of contexts A shows cells reader queued)
machine-finished contexts A B shows items from outbox cells reader queued holds empty begins finished stand =
    finished-kept contexts A B shows items from (world_of contexts cells reader queued) outbox (kept_of contexts A shows cells reader queued) holds empty begins finished
    (kept-of contexts A B shows cells reader queued stand (no-item_quiet contexts A B cells reader queued stand finished.quiet))
