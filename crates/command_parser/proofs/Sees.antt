-- Whether an item stands at a place, by what a reader of one item answers.
use Rattle.std.proofs.Common.{◌≡◌, ℕ, ◌+◌, Bool, true, false, cond, List, Some, None, refl}
use Rattle.grammar_forms.specs.Rule.{Row, has}
use Rattle.grammar_forms.specs.Reader.{item_of}

yes : (b : Bool) (at : ℕ) (x : Unit {0} × ℕ) → cond b (Some (tt, at + 1)) None ≡ Some x → b ≡ true
yes true at x h = refl
yes false at x h = cc

no_item : (b : Bool) (x : Unit {0} × ℕ) → cond b (Some x) None ≡ None → b ≡ false
no_item true x h = cc
no_item false x h = refl

pub item_there : (row : Row) (set : List ℕ) (at : ℕ) (x : Unit {0} × ℕ) → item_of row set at ≡ Some x → has row set at ≡ true
unfolding item_of
item_there row set at x h = yes (has row set at) at x h

pub item_missing : (row : Row) (set : List ℕ) (at : ℕ) → item_of row set at ≡ None → has row set at ≡ false
unfolding item_of
item_missing row set at h = no_item (has row set at) (tt, at + 1) h
