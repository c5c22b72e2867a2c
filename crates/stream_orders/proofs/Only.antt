-- Any two outcomes that a contract of this crate allows are equal.
use mathlib.Core.Path.{◌∙◌, sym}
use Rattle.wire.specs.Only.{One}
use Rattle.stream_orders.proofs.argument_of.Kinds as argument-of
use Rattle.stream_orders.proofs.argument_of.Reads as argument-of-reads
use Rattle.stream_orders.proofs.Orders.new.Kinds as no-orders
use Rattle.stream_orders.proofs.Orders.new.Reads as no-orders-reads
use Rattle.stream_orders.proofs.Orders.with.Kinds as ordered
use Rattle.stream_orders.proofs.Orders.with.Reads as ordered-reads
use Rattle.stream_orders.proofs.Orders.check.Kinds as fault-of
use Rattle.stream_orders.proofs.Orders.check.Reads as fault-of-reads
use Rattle.stream_orders.proofs.count_one.Kinds as count-one
use Rattle.stream_orders.proofs.count_one.Reads as count-one-reads

pub argument-of-one : One 1 argument-of.ps argument-of.r argument-of-reads.Post (λ κs r s. r)
argument-of-one κs a x y s t p q = p ∙ sym q

pub no-orders-one : One 0 no-orders.ps no-orders.r no-orders-reads.Post (λ κs r s. r)
no-orders-one κs a x y s t p q = p ∙ sym q

pub ordered-one : One 0 ordered.ps ordered.r ordered-reads.Post (λ κs r s. r)
ordered-one κs a x y s t p q = p ∙ sym q

pub fault-of-one : One 0 fault-of.ps fault-of.r fault-of-reads.Post (λ κs r s. r)
fault-of-one κs a x y s t p q = p ∙ sym q

pub count-one-one : One 1 count-one.ps count-one.r count-one-reads.Post (λ κs r s. s.0.now)
count-one-one κs a x y s t p q = p ∙ sym q
