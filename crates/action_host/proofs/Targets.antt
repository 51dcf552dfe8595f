-- A channel leads to the slots that are counted for it.
use Rattle.std.proofs.Common.{◌≡◌, ℕ, ◌<◌, Bool, true, false, List, [], ◌∷◌, refl, sym, ap, ◌∙◌, arith, map, filter}
use Rattle.std.proofs.lemmas.Bool.Decides.{nat_tests}
use Rattle.std.specs.Prelude.{nat_lt, ◌==◌, ◌&&◌, ◌||◌}
use Rattle.std.specs.List.{list_any}
use Rattle.std.specs.declared.cmp.Ordering.{Ordering}
use Rattle.std.specs.declared.cmp.Ordering.TheVariants.{Less, Equal, Greater}
use Rattle.std.specs.Ordering.{is_eq, nat_cmp, ordering_then}
use Rattle.std.specs.Cmp.Lexicographic.{slice_cmp}
use Rattle.std.proofs.lemmas.Map.Text.{is_eq-slice_cmp}
use Rattle.action_host.specs.declared.tally.Tally.{Tally}
use Rattle.action_host.specs.Counts.{AreCounts, by_order, count_of, once}
use Rattle.action_host.specs.Scenes.{leads_to}
use Rattle.action_host.specs.Lawful.{TargetsAreCounted}
use Rattle.action_host.proofs.Counting.{behind_both, none_before, place_less}

-- this slot is among those to which the channel leads
among : List ℕ → ℕ → List Tally → Bool
among channel slot ts = list_any (λ s. s == slot) (map (λ t. t.slot) (filter (leads_to channel) ts))

-- the first one is that slot, or it is among the others
first_or : (leads : Bool) (channel : List ℕ) (slot : ℕ) (t : Tally) (ts : List Tally) → leads_to channel t ≡ leads → among channel slot (t ∷ ts) ≡ ((leads && (t.slot == slot)) || among channel slot ts)
unfolding among
first_or true channel slot t ts is = rw is refl
first_or false channel slot t ts is = rw is refl

same_slot : (a b : ℕ) → is_eq (nat_cmp a b) ≡ (a == b)
same_slot a b = grind (arith, nat_tests)

-- by the order of the two channels and that of the two slots
step : (p q : Ordering) (positive rest : Bool) (n m : ℕ) → positive ≡ true → nat_lt 0 n ≡ true → rest ≡ nat_lt 0 m → (ordering_then p q ≡ Greater → m ≡ 0) → (((is_eq p && positive) && is_eq q) || rest) ≡ nat_lt 0 (by_order (ordering_then p q) m n 0)
step Less q positive rest n m h k r g = r
step Equal Less positive rest n m h k r g = rw h r
step Equal Equal positive rest n m h k r g = rw h (sym k)
step Equal Greater positive rest n m h k r g = rw h (r ∙ ap (nat_lt 0) (g refl))
step Greater q positive rest n m h k r g = r ∙ ap (nat_lt 0) (g refl)

counts : (n : ℕ) → 0 < n → nat_lt 0 n ≡ true
counts n h = grind (arith, nat_tests)

pub targets_counted : TargetsAreCounted
unfolding among
targets_counted channel slot scene a = go scene.subscriptions a
  where
    go : (ts : List Tally) → AreCounts ts → among channel slot ts ≡ nat_lt 0 (count_of channel slot ts)
    go [] a = refl
    go (t ∷ ts) a =
        let positive : nat_lt 0 t.count ≡ true = counts t.count a.0 in
        first_or (leads_to channel t) channel slot t ts refl
        ∙ ap (λ x. (((x && nat_lt 0 t.count) && (t.slot == slot)) || among channel slot ts)) (sym (is_eq-slice_cmp t.channel channel))
        ∙ ap (λ x. (((is_eq (slice_cmp nat_cmp t.channel channel) && nat_lt 0 t.count) && x) || among channel slot ts)) (sym (same_slot t.slot slot))
        ∙ step (slice_cmp nat_cmp t.channel channel) (nat_cmp t.slot slot) (nat_lt 0 t.count) (among channel slot ts) t.count (count_of channel slot ts) positive positive (go ts a.2)
        (λ is. none_before channel slot ts (behind_both (once channel slot) t ts (place_less t (once channel slot) is) a.1))
