-- The reply and the flight on the wire: three records and two, one behind the other, each read back as it was written.
use mathlib.Core.Path.{◌≡◌, sym, ◌∙◌, ap}
use mathlib.Core.Bool.{true, false}
use mathlib.Core.List.{List, [], ◌∷◌, ◌++◌, append_assoc}
use Prim.Native.Nat.{ℕ, ◌+◌}
use native.Mathlib.Omega.{arith}
use lib.ListN.{length, take, drop, length-append}
use Rattle.digest.specs.Mac.{size_of}
use Rattle.digest.specs.Hmac.{hmac}
use Rattle.record.specs.Reader.{read_of}
use Rattle.record.specs.Keys.{secret_for}
use Rattle.record.specs.Written.{record_of, byte_for}
use Rattle.record.specs.Code.{fragment_by}
use Rattle.record.specs.Protection.{record_under}
use Rattle.record.specs.Datagram.{framed, after, placed_at, framing_from, framing_of}
use Rattle.record.specs.declared.header.Content.TheVariants as C
use Rattle.record.specs.declared.keys.Keys.{Keys}
use Rattle.record.specs.declared.keys.Sense.{Sense}
use Rattle.record.specs.declared.reader.Record.{Record}
use Rattle.record.proofs.RoundTrip.{read_back, read_long, read_protected, fragment_back}
use Rattle.record.proofs.ProtectedBytes.{size_most}
use Rattle.record.proofs.Protecting.{record_under_length}
use Rattle.message.specs.Change.{change_bytes}
use Rattle.connection.specs.Judge.{fragment_of}
use Rattle.connection.specs.Reply.{hello_record, change_record}
use Rattle.connection.proofs.Replying.{hello_size_lem, change_size}
use Rattle.demands.proofs.Wire.{front_framed, last_framed, sized, behind, protected_fragment}
use Rattle.std.specs.Prelude.{Ok}

-- ---- the records, read at the front

change_read : (tail : List ℕ) → read_of (change_record ++ tail) ≡ Ok (read_back true false C.ChangeCipherSpec 1 1)
unfolding change_record
change_read tail = read_long false C.ChangeCipherSpec 1 change_bytes tail (omega arith) (omega arith) (omega arith)

change_fragment : (tail : List ℕ) → take 1 (drop 5 (change_record ++ tail)) ≡ change_bytes
unfolding change_record
change_fragment tail = fragment_back true false C.ChangeCipherSpec 1 change_bytes tail

hello_read : (m tail : List ℕ) → length m ≡ 35 → read_of (hello_record m ++ tail) ≡ Ok (read_back true false C.Handshake 0 35)
unfolding hello_record
hello_read m tail l =
    read_long false C.Handshake 0 m tail (omega arith) (omega (arith, l)) (omega (arith, l)) ∙ ap (λ n. Ok (read_back true false C.Handshake 0 n)) l

hello_fragment : (m tail : List ℕ) → length m ≡ 35 → take 35 (drop 5 (hello_record m ++ tail)) ≡ m
unfolding hello_record
hello_fragment m tail l =
    ap (λ n. take n (drop 5 (record_of true false C.Handshake 0 m ++ tail))) (sym l) ∙ fragment_back true false C.Handshake 0 m tail

module _ (k : Keys) (sense : Sense) (body : List ℕ) (l : length body ≡ 15) where
  abbrev pub finished_as : List ℕ
  finished_as = record_under k sense C.Handshake 0 body

  finished_read : read_of finished_as ≡ Ok (read_back false true C.Handshake 0 (15 + size_of k.mac))
  unfolding record_under
  finished_read =
      read_protected (secret_for k sense 0) k.mac C.Handshake 0 body (omega arith)
      ∙ ap (λ n. Ok (read_back false true C.Handshake 0 (n + size_of k.mac))) l

  pub finished_size : length finished_as ≡ 18 + size_of k.mac
  finished_size = record_under_length k sense C.Handshake 0 body ∙ omega (arith, l)

  finished_fragment : take (15 + size_of k.mac) (drop 3 finished_as)
      ≡ fragment_by (hmac (secret_for k sense 0)) (size_of k.mac) 0 (byte_for false true C.Handshake) body
  unfolding record_under
  finished_fragment =
      ap (λ n. take (n + size_of k.mac) (drop 3 finished_as)) (sym l)
      ∙ protected_fragment C.Handshake 0 (omega arith) (secret_for k sense 0) k.mac body

  -- ---- the flight: change cipher spec at 0, Finished at 6

  abbrev pub flown : List ℕ
  flown = change_record ++ finished_as

  abbrev pub change_first : Record
  change_first = read_back true false C.ChangeCipherSpec 1 1

  abbrev pub finished_at : ℕ → Record
  finished_at at = placed_at (read_back false true C.Handshake 0 (15 + size_of k.mac)) at

  pub flown_size : length flown ≡ 24 + size_of k.mac
  flown_size = length-append change_record finished_as ∙ omega (arith, change_size, finished_size)

  pub flown_framed : framing_of flown ≡ framed (change_first ∷ finished_at 6 ∷ [])
  flown_framed =
      sized flown (omega (arith, flown_size)) (omega (arith, flown_size, size_most k.mac))
      ∙ front_framed 7 0 change_record finished_as change_first (change_read finished_as) (sym change_size) (omega (arith, change_size))
      ∙ ap (λ n. after (placed_at change_first 0 ∷ []) (framing_from 7 (0 + n) finished_as)) change_size
      ∙ ap (after (change_first ∷ []))
      (last_framed 6 6 finished_as (read_back false true C.Handshake 0 (15 + size_of k.mac)) finished_read (sym (finished_size ∙ omega arith)) (omega (arith, finished_size)))

  pub flown_change : fragment_of flown change_first ≡ change_bytes
  flown_change = change_fragment finished_as

  pub flown_finished : fragment_of flown (finished_at 6)
      ≡ fragment_by (hmac (secret_for k sense 0)) (size_of k.mac) 0 (byte_for false true C.Handshake) body
  flown_finished = behind change_record finished_as 6 3 (15 + size_of k.mac) (sym change_size) ∙ finished_fragment

  -- ---- the reply: ServerHello at 0, change cipher spec at 40, Finished at 46

  module _ (m : List ℕ) (lm : length m ≡ 35) where
    abbrev pub replied : List ℕ
    replied = hello_record m ++ (change_record ++ finished_as)

    abbrev pub hello_first : Record
    hello_first = read_back true false C.Handshake 0 35

    abbrev pub change_next : Record
    change_next = placed_at (read_back true false C.ChangeCipherSpec 1 1) 40

    pub replied_size : length replied ≡ 64 + size_of k.mac
    replied_size = length-append (hello_record m) flown ∙ omega (arith, hello_size_lem m lm, flown_size)

    both_size : length (hello_record m ++ change_record) ≡ 46
    both_size = length-append (hello_record m) change_record ∙ omega (arith, hello_size_lem m lm, change_size)

    pub replied_framed : framing_of replied ≡ framed (hello_first ∷ change_next ∷ finished_at 46 ∷ [])
    replied_framed =
        sized replied (omega (arith, replied_size)) (omega (arith, replied_size, size_most k.mac))
        ∙ front_framed 7 0 (hello_record m) flown hello_first (hello_read m flown lm) (sym (hello_size_lem m lm)) (omega (arith, hello_size_lem m lm))
        ∙ ap (λ n. after (placed_at hello_first 0 ∷ []) (framing_from 7 (0 + n) flown)) (hello_size_lem m lm)
        ∙ ap (after (hello_first ∷ []))
        (front_framed 6 40 change_record finished_as change_first (change_read finished_as) (sym change_size) (omega (arith, change_size))
        ∙ ap (λ n. after (change_next ∷ []) (framing_from 6 (40 + n) finished_as)) change_size
        ∙ ap (after (change_next ∷ []))
        (last_framed 5 46 finished_as (read_back false true C.Handshake 0 (15 + size_of k.mac)) finished_read (sym (finished_size ∙ omega arith)) (omega (arith, finished_size))))

    pub replied_hello : fragment_of replied hello_first ≡ m
    replied_hello = hello_fragment m flown lm

    pub replied_change : fragment_of replied change_next ≡ change_bytes
    replied_change = behind (hello_record m) flown 40 5 1 (sym (hello_size_lem m lm)) ∙ change_fragment finished_as

    pub replied_finished : fragment_of replied (finished_at 46)
        ≡ fragment_by (hmac (secret_for k sense 0)) (size_of k.mac) 0 (byte_for false true C.Handshake) body
    replied_finished =
        let joined : replied ≡ (hello_record m ++ change_record) ++ finished_as = simp append_assoc in
        ap (λ d. take (15 + size_of k.mac) (drop 49 d)) joined
        ∙ behind (hello_record m ++ change_record) finished_as 46 3 (15 + size_of k.mac) (sym both_size) ∙ finished_fragment
