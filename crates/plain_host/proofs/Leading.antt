-- How many counts are of a channel.
use Rattle.std.proofs.Common.{◌≡◌, ℕ, ◌+◌, ◌<◌, Bool, true, false, List, [], ◌∷◌, length, filter, refl, sym, ap, ◌∙◌, arith}
use Rattle.std.proofs.lemmas.Bool.Decides.{nat_tests}
use Rattle.std.specs.Prelude.{nat_lt, ◌&&◌}
use Rattle.std.specs.Str.{bytes_eq}
use Rattle.std.specs.declared.cmp.Ordering.{Ordering}
use Rattle.std.specs.declared.cmp.Ordering.TheVariants.{Less, Equal, Greater}
use Rattle.std.specs.Ordering.{is_eq, is_le, is_lt, nat_cmp}
use Rattle.std.specs.Cmp.Lexicographic.{slice_cmp}
use Rattle.std.proofs.lemmas.Map.Text.{is_eq-slice_cmp}
use Rattle.action_host.specs.declared.tally.Tally.{Tally}
use Rattle.action_host.specs.Counts.{AreCounts}
use Rattle.action_host.specs.Scenes.{leads_to}
use Rattle.action_host.proofs.Counting.{Behind}
use Rattle.plain_host.specs.Places.{in_front, is_channel_before, is_channel_up_to}
use Rattle.plain_host.proofs.Halves.{Falls, channel_falls, up_to_falls}

-- what doesn't hold of a place holds of none behind it
none_behind : (p : Tally → Bool) → Falls p → (t : Tally) (ts : List Tally) → Behind t ts → p t ≡ false → in_front p ts ≡ 0
none_behind p falls t [] h none = refl
none_behind p falls t (x ∷ xs) h none = go (p x) refl
  where
    go : (b : Bool) → p x ≡ b → in_front p (x ∷ xs) ≡ 0
    go true is = let was : p t ≡ true = falls t x h.0 is in cc
    go false is = rw is refl

leads_by : (channel : List ℕ) (t : Tally) → 0 < t.count → leads_to channel t ≡ is_eq (slice_cmp nat_cmp t.channel channel)
leads_by channel t h = let some : nat_lt 0 t.count ≡ true = grind (arith, nat_tests) in rw some (ends (bytes_eq t.channel channel) ∙ sym (is_eq-slice_cmp t.channel channel))
  where
    ends : (b : Bool) → (b && true) ≡ b
    ends true = refl
    ends false = refl

pub leading : (channel : List ℕ) (ts : List Tally) → AreCounts ts → in_front (is_channel_up_to channel) ts ≡ in_front (is_channel_before channel) ts + length (filter (leads_to channel) ts)
leading channel [] a = refl
leading channel (t ∷ ts) a = go (slice_cmp nat_cmp t.channel channel) refl (leading channel ts a.2)
  where
    go : (o : Ordering) → slice_cmp nat_cmp t.channel channel ≡ o → in_front (is_channel_up_to channel) ts ≡ in_front (is_channel_before channel) ts + length (filter (leads_to channel) ts)
        → in_front (is_channel_up_to channel) (t ∷ ts) ≡ in_front (is_channel_before channel) (t ∷ ts) + length (filter (leads_to channel) (t ∷ ts))
    go Less is r =
        let no_lead : leads_to channel t ≡ false = leads_by channel t a.0 ∙ ap is_eq is in
        rw (no_lead, is) (omega (arith, r))
    go Equal is r =
        let lead : leads_to channel t ≡ true = leads_by channel t a.0 ∙ ap is_eq is in
        let none : in_front (is_channel_before channel) ts ≡ 0 = none_behind (is_channel_before channel) (channel_falls channel) t ts a.1 (ap is_lt is) in
        rw (lead, is) (omega (arith, r, none))
    go Greater is r =
        let no_lead : leads_to channel t ≡ false = leads_by channel t a.0 ∙ ap is_eq is in
        let none : in_front (is_channel_up_to channel) ts ≡ 0 = none_behind (is_channel_up_to channel) (up_to_falls channel) t ts a.1 (ap is_le is) in
        rw (no_lead, is) (omega (arith, r, none))
