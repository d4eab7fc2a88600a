pub mod PointLaws
pub mod PolynomialLaws
pub mod CloneLaws
pub mod PolyLaws
