-- The invariant: the first i words of out are the first i words of the bytes.
use mathlib.Core.Path.{◌≡◌}
use lib.ListN.{length, take}
use Rattle.packed.specs.Packed.{first_words}
use Rattle.packed.proofs.read_2.Given as goal

abbrev pub invariant-loop-i : goal.invariant-loop-i
invariant-loop-i l = (length l.out ≡ length l.initial.out) × (take l.i l.out ≡ first_words 2 l.i l.bytes)
