-- How a run ends, by what was read and written.
use Rattle.std.specs.Prelude.{IfSome}
use Rattle.std.specs.Io.KnownBytes.{Keeps, Appends}
use Rattle.std.proofs.Common.{◌≡◌, ℕ, List, [], ◌++◌, take, drop, Option, Some, None, refl, sym, ◌∙◌, ap, subst, append_assoc}
use Rattle.std.proofs.Common.{append-nil, take-append-drop}
use Rattle.tc_script.specs.declared.running.Ended.{Ended}
use Rattle.tc_script.specs.declared.running.Ended.TheVariants.{Done, BadLine, NoMemory, Stream}
use Rattle.tc_script.specs.declared.script.ScriptFault.{ScriptFault}
use Rattle.tc_script.specs.declared.script.ScriptFault.TheVariants.{BadLine as BadLineFault, NoMemory as NoMemoryFault}
use Rattle.tc_script.specs.Plans.{reading_of}
use Rattle.tc_script.specs.Refusing.{IsFaultOf}
use Rattle.tc_script.specs.Answering.{ended_of, IsPrintOf, IsWrittenTo, IsBegun, Unread, Unwritten, IsUnread, IsEndOf}
use Rattle.tc_script.specs.Answering.{IsUnwritten}

Appends-both : (old mid new : Option (List ℕ)) (xs ys : List ℕ) → Appends old mid xs → Appends mid new ys
    → Appends old new (xs ++ ys)
Appends-both None mid new xs ys a b = tt
Appends-both (Some held) None new xs ys a b = absurd a
Appends-both (Some held) (Some more) None xs ys a b = absurd b
Appends-both (Some held) (Some more) (Some all) xs ys a b = b ∙ ap (λ l. l ++ ys) a ∙ append_assoc held xs ys

Appends-kept : (old mid new : Option (List ℕ)) (xs : List ℕ) → Appends old mid xs → Keeps mid new → Appends old new xs
Appends-kept None mid new xs a k = tt
Appends-kept (Some held) None new xs a k = absurd a
Appends-kept (Some held) (Some more) None xs a k = absurd k
Appends-kept (Some held) (Some more) (Some all) xs a k = k ∙ a

-- what comes behind a front makes a longer front
pub written_to-more : (bytes rest : List ℕ) (n : ℕ) (old mid new : Option (List ℕ)) → IsWrittenTo bytes rest old mid
    → Appends mid new (take n rest) → IsWrittenTo bytes (drop n rest) old new
written_to-more bytes rest n old mid new b a = record {
  front = b.front ++ take n rest;
  whole =
      b.whole
      ∙ (ap (λ xs. b.front ++ xs) (sym (take-append-drop n rest)) ∙ sym (append_assoc b.front (take n rest) (drop n rest)));
  written = Appends-both old mid new b.front (take n rest) b.written a;
}

pub written_to-kept : (bytes rest : List ℕ) (old mid new : Option (List ℕ)) → IsWrittenTo bytes rest old mid → Keeps mid new
    → IsWrittenTo bytes rest old new
written_to-kept bytes rest old mid new b k = record {
  front = b.front;
  whole = b.whole;
  written = Appends-kept old mid new b.front b.written k;
}

print_of-same : (text xs print : List ℕ) → text ≡ xs → IsPrintOf text print → IsPrintOf xs print
print_of-same text xs print same p = subst (λ (t : List ℕ). IsPrintOf t print) same p

-- writing failed
pub ended-stream : (known : Option (List ℕ)) (text print : List ℕ) (old new : Option (List ℕ)) → IfSome known (λ xs. text ≡ xs)
    → IsPrintOf text print → IsBegun print old new → IfSome known (λ xs. IsEndOf xs old new Stream)
ended-stream None text print old new same p b = tt
ended-stream (Some xs) text print old new same p b = Unwritten print (print_of-same text xs print same p) b
