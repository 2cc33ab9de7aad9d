-- A request that was written reads back as itself.
-- Assumes nothing.
use Prim.Native.Nat.{ℕ, ◌≤◌, ◌<◌}
use mathlib.Core.Path.{◌≡◌, sym, subst}
use mathlib.Core.Bool.{Bool, true, false}
use mathlib.Core.Option.{some}
use mathlib.Core.List.{List, [], ◌∷◌, ◌++◌}
use lib.ListN.{length, length-append}
use lib.Dec.{T, leb}
use lib.Pow.{are_bytes}
use borrow.Author.Tests.{le-ltb, leb-true, eqb-true}
use native.Mathlib.Omega.{arith}
use Rattle.numbers.proofs.TestLaws.{both}
use Rattle.answers.specs.Written.{length_of, Writes}
use Rattle.answers.specs.Written.{Written}
use Rattle.stream.proofs.BytesOfParts.{bytes_cons, bytes_append}
use Rattle.eversolar.specs.Wire.{Message, Takes, payload_max, wire}
use Rattle.numbers.specs.Addresses.{last_address, is_address, is_serial}
use Rattle.eversolar_requests.specs.Requests.{request, ask_all, give_address, ask_one, IsAskAll, IsAskOne, IsGiveAddress}
use Rattle.eversolar_requests.specs.Demands.{ReadsAs}
use Rattle.eversolar_requests.specs.declared.ToAll.{ToAll}
use Rattle.eversolar_requests.specs.declared.ToAll.TheVariants.{OffLine, Reconnect, ReRegister}
use Rattle.eversolar_requests.specs.declared.ToOne.{ToOne}
use Rattle.eversolar_requests.specs.declared.ToOne.TheVariants.{Remove, Normal, Identity, Settings, FixedSize}
use Rattle.eversolar_requests.proofs.BuilderEnds.{wrote}
use Rattle.eversolar.proofs.Demands.{demanded}

reads_as : (m : Message) (room frame : List ℕ) (w : Written) (n : ℕ) → Takes m → Writes false (wire m) room w frame → length_of w ≡ some n → ReadsAs m frame n
reads_as m room frame w n t h e =
    let fits : length m.payload ≤ payload_max = t.fits in
    demanded.reads_back m t room frame w n (subst (λ (b : Bool). Writes b (wire m) room w frame) (sym (le-ltb payload_max (length m.payload) fits)) h) e

request_takes : (address control function : ℕ) (payload : List ℕ) → address < 256 → control < 256 → function < 256 → T (are_bytes payload) → length payload ≤ payload_max → Takes (request address control function payload)
request_takes address control function payload a c f g fits =
    record { source_first = omega arith; source_second = omega arith; destination_first = omega arith; destination_second = a; control = c; function = f; payload = g; fits = fits }

dataless : {address control function : ℕ} → address < 256 → control < 256 → function < 256 → Takes (request address control function [])
dataless {address} {control} {function} a c f = request_takes address control function [] a c f tt (omega arith)

pub ask_all_reads_back : (what : ToAll) (room frame : List ℕ) (w : Written) (n : ℕ) → IsAskAll what room w frame → length_of w ≡ some n → ReadsAs (ask_all what) frame n
ask_all_reads_back what room frame w n h e = reads_as (ask_all what) room frame w n (takes what) (wrote true true (ask_all what) room frame w n h e).written e
  where
    takes : (x : ToAll) → Takes (ask_all x)
    takes OffLine = dataless (omega arith) (omega arith) (omega arith)
    takes Reconnect = dataless (omega arith) (omega arith) (omega arith)
    takes ReRegister = dataless (omega arith) (omega arith) (omega arith)

address_byte : (address : ℕ) → is_address address ≡ true → address < 256
address_byte address e = omega (arith, leb-true address last_address (both (leb 1 address) (leb address last_address) e).1)

pub ask_one_reads_back : (what : ToOne) (address : ℕ) (room frame : List ℕ) (w : Written) (n : ℕ) → IsAskOne what address room w frame → length_of w ≡ some n
    → ReadsAs (ask_one what address) frame n
ask_one_reads_back what address room frame w n h e =
    let x = wrote (is_address address) true (ask_one what address) room frame w n h e in
    reads_as (ask_one what address) room frame w n (takes what (address_byte address x.addressed)) x.written e
  where
    takes : (y : ToOne) → address < 256 → Takes (ask_one y address)
    takes Remove a = dataless a (omega arith) (omega arith)
    takes Normal a = dataless a (omega arith) (omega arith)
    takes Identity a = dataless a (omega arith) (omega arith)
    takes Settings a = dataless a (omega arith) (omega arith)
    takes FixedSize a = dataless a (omega arith) (omega arith)

pub give_address_reads_back : (serial : List ℕ) (address : ℕ) (room frame : List ℕ) (w : Written) (n : ℕ) → T (are_bytes serial) → IsGiveAddress serial address room w frame → length_of w ≡ some n
    → ReadsAs (give_address serial address) frame n
give_address_reads_back serial address room frame w n g h e =
    let x = wrote (is_address address) (is_serial serial) (give_address serial address) room frame w n h e in
    let small = address_byte address x.addressed in
    let long : length serial ≡ 16 = eqb-true (length serial) 16 x.numbered in
    let takes = request_takes 0 0x10 0x01 (serial ++ (address ∷ [])) (omega arith) (omega arith) (omega arith) (bytes_append serial (address ∷ []) g (bytes_cons address [] small tt)) (simp length-append (omega arith)) in
    reads_as (give_address serial address) room frame w n takes x.written e
