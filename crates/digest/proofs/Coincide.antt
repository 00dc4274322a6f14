-- Two outcomes that meet the contract of one public call are the same: a theorem for each call, over the very predicate
-- of its `ensures`, as the check makes it from the source (`Determined` says what is stated). So a contract that is
-- weakened until it allows a second outcome is refused here.
-- Two values that both equal one definition are equal, and so are the contents of two buffers. Of several clauses the
-- first is that equation; a `meaning` is not needed. In `ap (λ w. ..)`, w stands for the lent buffer, in its place
-- among the parameters. `cut` gives back a part of a lent slice, and `name` one that stands in the program: the same bytes. Where a name
-- stands in the program, `static` is how long that lasts, whatever it is.
use Rattle.std.proofs.Common.{◌≡◌, ℕ, List, sym, refl, ap, ◌∙◌}
use Rattle.digest.specs.Determined.{OneOutcome, OneOutcomeBy}
use Rattle.digest.proofs.bytes.put as bytes-put
use Rattle.digest.specs.contracts.bytes.put as bytes-put-contract
use Rattle.digest.proofs.pieces.Hasher.new as pieces-hasher-new
use Rattle.digest.specs.contracts.pieces.Hasher.new as pieces-hasher-new-contract
use Rattle.digest.proofs.pieces.Hasher.update as pieces-hasher-update
use Rattle.digest.specs.contracts.pieces.Hasher.update as pieces-hasher-update-contract
use Rattle.digest.proofs.pieces.Hasher.finish as pieces-hasher-finish
use Rattle.digest.specs.contracts.pieces.Hasher.finish as pieces-hasher-finish-contract
use Rattle.digest.proofs.pieces.sha1 as pieces-sha1
use Rattle.digest.specs.contracts.pieces.sha1 as pieces-sha1-contract
use Rattle.digest.proofs.key.Key.new as key-key-new
use Rattle.digest.specs.contracts.key.Key.new as key-key-new-contract
use Rattle.digest.proofs.key.Key.begin as key-key-begin
use Rattle.digest.specs.contracts.key.Key.begin as key-key-begin-contract
use Rattle.digest.proofs.key.Key.end as key-key-end
use Rattle.digest.specs.contracts.key.Key.end as key-key-end-contract
use Rattle.digest.proofs.key.Key.code as key-key-code
use Rattle.digest.specs.contracts.key.Key.code as key-key-code-contract
use Rattle.digest.proofs.key.Key.expand as key-key-expand
use Rattle.digest.specs.contracts.key.Key.expand as key-key-expand-contract
use Rattle.digest.proofs.key.prf as key-prf
use Rattle.digest.specs.contracts.key.prf as key-prf-contract
use Rattle.digest.proofs.edition.mac_named as edition-mac-named
use Rattle.digest.specs.contracts.edition.mac_named as edition-mac-named-contract
use Rattle.digest.proofs.named.Named.name as named-named-name
use Rattle.digest.specs.contracts.named.Named.name as named-named-name-contract
use Rattle.digest.proofs.named.Named.sizes as named-named-sizes
use Rattle.digest.specs.contracts.named.Named.sizes as named-named-sizes-contract
use Rattle.digest.proofs.mac.Mac.number as mac-mac-number
use Rattle.digest.specs.contracts.mac.Mac.number as mac-mac-number-contract
use Rattle.digest.proofs.mac.Mac.size as mac-mac-size
use Rattle.digest.specs.contracts.mac.Mac.size as mac-mac-size-contract
use Rattle.digest.proofs.mac.Mac.secret_size as mac-mac-secret-size
use Rattle.digest.specs.contracts.mac.Mac.secret_size as mac-mac-secret-size-contract
use Rattle.digest.proofs.mac.Mac.client_expansion as mac-mac-client-expansion
use Rattle.digest.specs.contracts.mac.Mac.client_expansion as mac-mac-client-expansion-contract
use Rattle.digest.proofs.mac.Mac.server_expansion as mac-mac-server-expansion
use Rattle.digest.specs.contracts.mac.Mac.server_expansion as mac-mac-server-expansion-contract
use Rattle.digest.proofs.mac.Mac.cut as mac-mac-cut
use Rattle.digest.specs.contracts.mac.Mac.cut as mac-mac-cut-contract
use Rattle.digest.proofs.mac.Mac.listed as mac-mac-listed
use Rattle.digest.specs.contracts.mac.Mac.listed as mac-mac-listed-contract
use Rattle.digest.proofs.mac.same_code as mac-same-code
use Rattle.digest.specs.contracts.mac.same_code as mac-same-code-contract

pub bytes_put_one : OneOutcome bytes-put-contract.ended bytes-put.Reads.Learnt
bytes_put_one κs a x y s u e f = (refl, ap (λ w. (w, (tt, (tt, tt)))) (e ∙ sym f))

pub pieces_hasher_new_one : OneOutcome pieces-hasher-new-contract.ended pieces-hasher-new.Reads.Learnt
pieces_hasher_new_one κs a x y s u e f = (e ∙ sym f, refl)

pub pieces_hasher_update_one : OneOutcome pieces-hasher-update-contract.ended pieces-hasher-update.Reads.Learnt
pieces_hasher_update_one κs a x y s u e f = (e.0 ∙ sym f.0, refl)

pub pieces_hasher_finish_one : OneOutcome pieces-hasher-finish-contract.ended pieces-hasher-finish.Reads.Learnt
pieces_hasher_finish_one κs a x y s u e f = (e.0 ∙ sym f.0, refl)

pub pieces_sha1_one : OneOutcome pieces-sha1-contract.ended pieces-sha1.Reads.Learnt
pieces_sha1_one κs a x y s u e f = (e ∙ sym f, refl)

pub key_key_new_one : OneOutcome key-key-new-contract.ended key-key-new.Reads.Learnt
key_key_new_one κs a x y s u e f = (e ∙ sym f, refl)

pub key_key_begin_one : OneOutcome key-key-begin-contract.ended key-key-begin.Reads.Learnt
key_key_begin_one κs a x y s u e f = (e ∙ sym f, refl)

pub key_key_end_one : OneOutcome key-key-end-contract.ended key-key-end.Reads.Learnt
key_key_end_one κs a x y s u e f = (e.0 ∙ sym f.0, refl)

pub key_key_code_one : OneOutcome key-key-code-contract.ended key-key-code.Reads.Learnt
key_key_code_one κs a x y s u e f = (e.0 ∙ sym f.0, refl)

pub key_key_expand_one : OneOutcome key-key-expand-contract.ended key-key-expand.Reads.Learnt
key_key_expand_one κs a x y s u e f = (refl, ap (λ w. (tt, (tt, (tt, (tt, (tt, (w, tt))))))) (e.0 ∙ sym f.0))

pub key_prf_one : OneOutcome key-prf-contract.ended key-prf.Reads.Learnt
key_prf_one κs a x y s u e f = (refl, ap (λ w. (tt, (tt, (tt, (tt, (tt, (w, tt))))))) (e ∙ sym f))

pub edition_mac_named_one : OneOutcome edition-mac-named-contract.ended edition-mac-named.Reads.Learnt
edition_mac_named_one κs a x y s u e f = (e ∙ sym f, refl)

pub named_named_name_one : (static : List ℕ) → OneOutcomeBy named-named-name-contract.ended (λ κs x y. x.now ≡ y.now) (λ κs. named-named-name.Reads.Learnt (static, κs))
named_named_name_one static κs a x y s u e f = (e.0 ∙ sym f.0, refl)

pub named_named_sizes_one : OneOutcome named-named-sizes-contract.ended named-named-sizes.Reads.Learnt
named_named_sizes_one κs a x y s u e f = (e ∙ sym f, refl)

pub mac_mac_number_one : OneOutcome mac-mac-number-contract.ended mac-mac-number.Reads.Learnt
mac_mac_number_one κs a x y s u e f = (e ∙ sym f, refl)

pub mac_mac_size_one : OneOutcome mac-mac-size-contract.ended mac-mac-size.Reads.Learnt
mac_mac_size_one κs a x y s u e f = (e ∙ sym f, refl)

pub mac_mac_secret_size_one : OneOutcome mac-mac-secret-size-contract.ended mac-mac-secret-size.Reads.Learnt
mac_mac_secret_size_one κs a x y s u e f = (e ∙ sym f, refl)

pub mac_mac_client_expansion_one : OneOutcome mac-mac-client-expansion-contract.ended mac-mac-client-expansion.Reads.Learnt
mac_mac_client_expansion_one κs a x y s u e f = (e ∙ sym f, refl)

pub mac_mac_server_expansion_one : OneOutcome mac-mac-server-expansion-contract.ended mac-mac-server-expansion.Reads.Learnt
mac_mac_server_expansion_one κs a x y s u e f = (e ∙ sym f, refl)

pub mac_mac_cut_one : OneOutcomeBy mac-mac-cut-contract.ended (λ κs x y. x.now ≡ y.now) mac-mac-cut.Reads.Learnt
mac_mac_cut_one κs a x y s u e f = (e ∙ sym f, refl)

pub mac_mac_listed_one : OneOutcome mac-mac-listed-contract.ended mac-mac-listed.Reads.Learnt
mac_mac_listed_one κs a x y s u e f = (e ∙ sym f, refl)

pub mac_same_code_one : OneOutcome mac-same-code-contract.ended mac-same-code.Reads.Learnt
mac_same_code_one κs a x y s u e f = (e ∙ sym f, refl)
