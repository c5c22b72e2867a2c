-- Any two outcomes that a contract of this crate allows are equal.
use mathlib.Core.Path.{◌∙◌, sym}
use Rattle.wire.specs.Only.{One}
use Rattle.edit_live.proofs.Payloads.span_at.Kinds as span-at
use Rattle.edit_live.proofs.Payloads.span_at.Reads as span-at-reads
use Rattle.edit_live.proofs.Payloads.last_end.Kinds as last_end
use Rattle.edit_live.proofs.Payloads.last_end.Reads as last-end-reads
use Rattle.edit_live.proofs.Payloads.spare.Kinds as spare
use Rattle.edit_live.proofs.Payloads.spare.Reads as spare-reads
use Rattle.edit_live.proofs.is_nearer.Kinds as is-nearer
use Rattle.edit_live.proofs.is_nearer.Reads as is-nearer-reads
use Rattle.edit_live.proofs.Payloads.next_live.Kinds as next-live
use Rattle.edit_live.proofs.Payloads.next_live.Reads as next-live-reads
use Rattle.edit_live.proofs.Payloads.first_overlap.Kinds as first-overlap
use Rattle.edit_live.proofs.Payloads.first_overlap.Reads as first-overlap-reads
use Rattle.edit_live.proofs.first_keyed.Kinds as first-keyed
use Rattle.edit_live.proofs.first_keyed.Reads as first-keyed-reads

pub span-at-one : One 2 span-at.ps span-at.r span-at-reads.Post (λ κs r s. r)
span-at-one κs a x y s t p q = p ∙ sym q

pub last-end-one : One 2 last_end.ps last_end.r last-end-reads.Post (λ κs r s. r)
last-end-one κs a x y s t p q = p ∙ sym q

pub spare-one : One 2 spare.ps spare.r spare-reads.Post (λ κs r s. r)
spare-one κs a x y s t p q = p ∙ sym q

pub is-nearer-one : One 0 is-nearer.ps is-nearer.r is-nearer-reads.Post (λ κs r s. r)
is-nearer-one κs a x y s t p q = p ∙ sym q

pub next-live-one : One 2 next-live.ps next-live.r next-live-reads.Post (λ κs r s. r)
next-live-one κs a x y s t p q = p ∙ sym q

pub first-overlap-one : One 2 first-overlap.ps first-overlap.r first-overlap-reads.Post (λ κs r s. r)
first-overlap-one κs a x y s t p q = p ∙ sym q

pub first-keyed-one : One 1 first-keyed.ps first-keyed.r first-keyed-reads.Post (λ κs r s. r)
first-keyed-one κs a x y s t p q = p ∙ sym q
