-- Pieces of a source that are read one behind the other.
use Rattle.std.proofs.Common.{◌≡◌, ℕ, ◌+◌, ◌-◌, ◌≤◌, List, [], ◌++◌, length, take, drop, slice_range, arith, ap, sym, ◌∙◌, refl, subst, length-append}
use Rattle.std.proofs.Common.{length-take, length-drop, append_assoc, append-nil}
use Rattle.std.specs.Io.KnownBytes.{Consumes}
use Rattle.std.proofs.KnownBytes.{Consumes-nil, Consumes-trans}
use Rattle.std.proofs.lemmas.List.{nil_from_length, drop-drop}
use Rattle.std.proofs.lemmas.Slice.{between_is}
use Rattle.std.proofs.Math.Seq.{take-add}
use Rattle.bmc_io.specs.Sources.{Input}
use Rattle.bmc_text.specs.Feeds.{Feed, Reads}

-- what the fields of a reader are
pub waiting_of : {feed is : Feed} → feed ≡ is → feed.waiting ≡ is.waiting
waiting_of same = ap (λ (feed : Feed). feed.waiting) same

pub read_of : {feed is : Feed} → feed ≡ is → feed.read ≡ is.read
read_of same = ap (λ (feed : Feed). feed.read) same

pub ended_of : {feed is : Feed} → feed ≡ is → feed.ended ≡ is.ended
ended_of same = ap (λ (feed : Feed). feed.ended) same

-- nothing is read
pub Reads-none : (waiting : List ℕ) (read read_now : ℕ) (input : Input) (Are : List ℕ → Type 0) → read_now ≡ read → Are waiting
    → Reads waiting read read_now input input Are
Reads-none waiting read read_now input Are same are = record {
  piece = [];
  consumed = Consumes-nil input.left;
  count = omega (arith, same);
  bytes = subst Are (sym (append-nil waiting)) are;
}

-- and where no more was read, the bytes are those that waited
pub Reads-waiting : {waiting : List ℕ} {read read_now : ℕ} {before now : Input} {Are : List ℕ → Type 0} → Reads waiting read read_now before now Are
    → read_now ≡ read → Are waiting
Reads-waiting {waiting} {read} {read_now} {before} {now} {Are} reads same =
    let none : reads.piece ≡ [] = nil_from_length reads.piece (omega (arith, reads.count)) in
    subst Are (ap (λ (piece : List ℕ). waiting ++ piece) none ∙ append-nil waiting) reads.bytes

pub Reads-weaker : {waiting : List ℕ} {read middle : ℕ} {before now : Input} {Are Were : List ℕ → Type 0} (read_now : ℕ)
    → Reads waiting read middle before now Are → read_now ≡ middle → ((bytes : List ℕ) → Are bytes → Were bytes) → Reads waiting read read_now before now Were
Reads-weaker {waiting} read_now reads same weaker = record {
  piece = reads.piece;
  consumed = reads.consumed;
  count = same ∙ reads.count;
  bytes = weaker (waiting ++ reads.piece) reads.bytes;
}

-- a piece, and then another one, where `rest` waits between them
pub Reads-then : {waiting rest : List ℕ} {read middle start last : ℕ} {before between now : Input} {Are Come Were : List ℕ → Type 0} (read_now : ℕ)
    → Reads waiting read middle before between Are → Reads rest start last between now Come → start ≡ middle → read_now ≡ last
    → ((bytes more : List ℕ) → last ≡ start + length more → Are bytes → Come (rest ++ more) → Were (bytes ++ more))
    → Reads waiting read read_now before now Were
Reads-then {waiting} {rest} {before = before} {between} {now} {Were = Were} read_now first second same as_last join = record {
  piece = first.piece ++ second.piece;
  consumed = Consumes-trans before.left between.left now.left first.piece second.piece first.consumed second.consumed;
  count = omega (arith, same, as_last, first.count, second.count, length-append first.piece second.piece);
  bytes =
      subst Were (append_assoc waiting first.piece second.piece) (join (waiting ++ first.piece) second.piece second.count first.bytes second.bytes);
}

-- the same, where all that was read waits between them
pub Reads-on : {waiting rest : List ℕ} {read middle last : ℕ} {before between now : Input} {Come : List ℕ → Type 0}
    → Reads waiting read middle before between (λ bytes. bytes ≡ rest) → Reads rest middle last between now Come → Reads waiting read last before now Come
Reads-on {last = last} {Come = Come} first second =
    Reads-then last first second refl refl (λ bytes more count is come. subst (λ (xs : List ℕ). Come (xs ++ more)) (sym is) come)

-- and where nothing does
pub Reads-anew : {waiting rest now_waiting : List ℕ} {read middle start last : ℕ} {before between now : Input} {Are Were : List ℕ → Type 0} (read_now : ℕ)
    → Reads waiting read middle before between Are → Reads rest start last between now (λ bytes. bytes ≡ now_waiting) → rest ≡ [] → start ≡ middle
    → read_now ≡ last → ((bytes : List ℕ) → Are bytes → Were (bytes ++ now_waiting)) → Reads waiting read read_now before now Were
Reads-anew {Were = Were} read_now first second none same as_last join =
    Reads-then read_now first second same as_last
    (λ bytes more count are is. subst (λ (xs : List ℕ). Were (bytes ++ xs)) (sym (ap (λ (xs : List ℕ). xs ++ more) (sym none) ∙ is)) (join bytes are))

-- a piece was read behind what waits, which had been moved to the front
pub reads_behind : (waiting : List ℕ) (before now : Input) (moved buffer : List ℕ) (end count : ℕ) → take end moved ≡ waiting
    → take end buffer ≡ take end moved → end + count ≤ length buffer → Consumes before.left now.left (slice_range buffer end (end + count))
    → Reads waiting 0 count before now (λ bytes. bytes ≡ slice_range buffer 0 (end + count))
reads_behind waiting before now moved buffer end count waits front fits consumed =
    let same : end + count - end ≡ count = omega arith in
    let all : end + count - 0 ≡ end + count = omega arith in
    record {
      piece = slice_range buffer end (end + count);
      consumed = consumed;
      count = omega (arith, length-take (end + count - end) (drop end buffer), length-drop end buffer);
      bytes =
          ap (λ (xs : List ℕ). xs ++ slice_range buffer end (end + count)) (sym (front ∙ waits))
          ∙ ap (λ (k : ℕ). take end buffer ++ take k (drop end buffer)) same
          ∙ sym (ap (λ (k : ℕ). take k buffer) all ∙ take-add end count buffer);
    }

-- the same, where so many bytes were read before it
pub Reads-behind : {was : List ℕ} {count : ℕ} {before now : Input} {Are Were : List ℕ → Type 0} (waiting : List ℕ) (read read_now : ℕ)
    → Reads was 0 count before now Are → was ≡ waiting → read_now ≡ read + count → ((bytes : List ℕ) → Are bytes → Were bytes)
    → Reads waiting read read_now before now Were
Reads-behind {was} {Were = Were} waiting read read_now reads waits count weaker = record {
  piece = reads.piece;
  consumed = reads.consumed;
  count = omega (arith, count, reads.count);
  bytes = subst (λ (xs : List ℕ). Were (xs ++ reads.piece)) waits (weaker (was ++ reads.piece) reads.bytes);
}

-- the span behind its first n bytes
pub span_drop : (buffer : List ℕ) (start end n : ℕ) → slice_range buffer (start + n) end ≡ drop n (slice_range buffer start end)
span_drop buffer start end n =
    between_is buffer (start + n) end ∙ sym (ap (drop n) (between_is buffer start end) ∙ drop-drop n start (take end buffer))
