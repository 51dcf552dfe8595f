-- A reader of one item.
use Rattle.std.proofs.Common.{◌≡◌, ◌+◌, ◌<◌}
use Rattle.grammar_forms.proofs.Common.{ℕ, true, List, [], Some, refl, sym, arith, Row, Reader, Good}
use Rattle.grammar_forms.specs.Rule.{has}

-- a reader of one token
pub good_token : {A : Type 0} (row : Row) (read : Reader A) (starts : List ℕ) (test : A → ℕ → Type 0) → ((at : ℕ) (x : A × ℕ) → read at ≡ Some x → test x.0 at × (x.1 ≡ at + 1)) → ((at : ℕ) (a : A) → test a at → read at ≡ Some (a, at + 1)) → ((at : ℕ) (a : A) → test a at → (at < row.len) × (has row starts at ≡ true)) → Good row (λ a at end. test a at × (end ≡ at + 1)) read starts []
good_token row read starts test reads answers there = record {
  sound = reads;
  moves = λ a at end h. let t = there at a h.0 in (omega (arith, h.1), omega (arith, t.0, h.1));
  begins = λ a at end h. (there at a h.0).1;
  covers = λ a at p h. record {
    tree = a;
    end = at + 1;
    found = answers at a h.0;
    far = omega (arith, h.1);
    stops = λ _. sym h.1;
    same = λ _. refl;
  };
}
