-- The cascade designs. Design: what a design returns. Butterworth, Chebyshev: the poles of 000 and 001. Prototype: the cascade of poles.
-- LowPass: the designs but the band pass. BandPass: the band pass. View: the code's types read as these records.
pub mod Design
pub mod Butterworth
pub mod Chebyshev
pub mod Prototype
pub mod LowPass
pub mod BandPass
pub mod View
